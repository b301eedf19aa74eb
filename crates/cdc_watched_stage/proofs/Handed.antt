-- What a turn hands on, and what waits behind it.
use Rattle.std.proofs.Common.{◌≡◌, ℕ, ◌+◌, ◌≤◌, ◌<◌, ◌⊎◌, inl, inr, Bool, true, false, List, [], ◌∷◌, ◌++◌, length, refl, sym, ◌∙◌, ap, subst, arith, append-nil, append_assoc}
use Rattle.cdc_model.specs.Records.{OutputUnit}
use Rattle.cdc_records.specs.declared.front.Front.{Front}
use Rattle.cdc_item.specs.declared.dump_item.DumpItem.{DumpItem}
use Rattle.cdc_item.specs.declared.dump_item.DumpItem.TheVariants.{Unit as OneUnit, End}
use Rattle.cdc_item.specs.Item.{units_among}
use Rattle.cdc_dump_stage.specs.declared.dump_end.DumpEnd.{DumpEnd}
use Rattle.cdc_dump_stage.specs.declared.dump_end.DumpEnd.TheVariants.{Open, Whole, Disk, Differs, Key as OtherKey}
use Rattle.cdc_dump_stage.specs.Taking.{is_well, Leads, Appends, PublishesOn}
use Rattle.cdc_watched_stage.specs.declared.stage.WatchedStage.{WatchedStage}
use Rattle.cdc_watched_stage.specs.Getting.{HasGot}
use Rattle.cdc_watched_stage.specs.Handing.{AreNumbered, IsPartOf, HandsUpTo, IsWatching, HandsOn}
use Rattle.cdc_watched_stage.specs.Laws.{front_empty, rest_empty, numbered_more}
use Rattle.cdc_watched_stage.proofs.Waiting.{numbered_length, numbered_none, numbered_rest}

-- the units that an item appended: none, or its own
pub record WasAppended (before later : ℕ) (item : DumpItem) : Type 0 where
  pub appended : List OutputUnit
  pub among : IsPartOf appended (units_among (item ∷ []))
  pub numbered : AreNumbered before appended later
  pub is : ((appended ≡ []) × (later ≡ before)) ⊎ ((appended ≡ units_among (item ∷ [])) × (later ≡ before + 1))

pub was_appended : (g later : Front) (item : DumpItem) → Appends g item later → WasAppended g.count later.count item
was_appended g later (OneUnit unit) (inl same) =
    let count : later.count ≡ g.count = ap (λ (f : Front). f.count) same in
    record { appended = []; among = inl refl; numbered = sym count; is = inl (refl, count) }
was_appended g later (OneUnit unit) (inr (next, moved)) =
    let count : later.count ≡ unit.number = ap (λ (f : Front). f.count) moved in
    let number : unit.number ≡ g.count + 1 = next.number in
    record { appended = unit ∷ []; among = inr ([], refl, refl); numbered = (number, sym (count ∙ number)); is = inr (refl, count ∙ number) }
was_appended g later End same =
    let count : later.count ≡ g.count = ap (λ (f : Front). f.count) same in
    record { appended = []; among = refl; numbered = sym count; is = inl (refl, count) }

-- none, where the count didn't rise
none_appended : (before later : ℕ) (item : DumpItem) (a : WasAppended before later item) → later ≤ before → a.appended ≡ []
none_appended before later item a low = by a.is
  where
    by : ((a.appended ≡ []) × (later ≡ before)) ⊎ ((a.appended ≡ units_among (item ∷ [])) × (later ≡ before + 1)) → a.appended ≡ []
    by (inl (none, same)) = none
    by (inr (all, more)) = absurd (let m : later ≡ before + 1 = more in omega (arith, m, low))

-- its own, where it rose
all_appended : (before later : ℕ) (item : DumpItem) (a : WasAppended before later item) → before < later → a.appended ≡ units_among (item ∷ [])
all_appended before later item a high = by a.is
  where
    by : ((a.appended ≡ []) × (later ≡ before)) ⊎ ((a.appended ≡ units_among (item ∷ [])) × (later ≡ before + 1)) → a.appended ≡ units_among (item ∷ [])
    by (inl (none, same)) = absurd (let s : later ≡ before = same in omega (arith, s, high))
    by (inr (all, more)) = all

-- it rose by one at most
one_more_at_most : (before later : ℕ) (item : DumpItem) → WasAppended before later item → later ≤ before + 1
one_more_at_most before later item a = by a.is
  where
    by : ((a.appended ≡ []) × (later ≡ before)) ⊎ ((a.appended ≡ units_among (item ∷ [])) × (later ≡ before + 1)) → later ≤ before + 1
    by (inl (none, same)) = let s : later ≡ before = same in omega (arith, s)
    by (inr (all, more)) = let m : later ≡ before + 1 = more in omega (arith, m)

-- what is appended isn't far from what is published
pub near_on : (old new : WatchedStage) (item taken : DumpItem) → (is_well old.stage.end ≡ true → old.stage.dumper.appended.count < old.stage.dumper.published.count + 4_096)
    → Leads old.stage.end old.stage.dumper.appended taken new.stage.end new.stage.dumper.appended → Appends old.stage.dumper.appended item new.stage.dumper.appended → old.stage.dumper.published.count ≤ new.stage.dumper.published.count
    → old.stage.dumper.appended.count ≤ old.stage.dumper.published.count + 4_096 → new.stage.dumper.appended.count ≤ new.stage.dumper.published.count + 4_096
near_on old new item taken few leads appends up near = by old.stage.end refl leads
  where
    still : new.stage.dumper.appended ≡ old.stage.dumper.appended → new.stage.dumper.appended.count ≤ new.stage.dumper.published.count + 4_096
    still same = let count : new.stage.dumper.appended.count ≡ old.stage.dumper.appended.count = ap (λ (f : Front). f.count) same in omega (arith, count, up, near)

    by : (e : DumpEnd) → old.stage.end ≡ e → Leads e old.stage.dumper.appended taken new.stage.end new.stage.dumper.appended → new.stage.dumper.appended.count ≤ new.stage.dumper.published.count + 4_096
    by Open is led =
        let room = few (ap is_well is) in
        let one = one_more_at_most old.stage.dumper.appended.count new.stage.dumper.appended.count item (was_appended old.stage.dumper.appended new.stage.dumper.appended item appends) in
        omega (arith, room, one, up)
    by Whole is led = still led.1
    by Disk is led = still led.1
    by (Differs kept given) is led = still led.1
    by (OtherKey kept given) is led = still led.1

-- one that is whole has nothing that waits
pub whole_none : (stage : WatchedStage) → IsWatching stage → stage.stage.dumper.appended ≡ stage.stage.dumper.published → stage.waits.items ≡ []
whole_none stage watching same = by stage.hands refl
  where
    by : (hands : Bool) → stage.hands ≡ hands → stage.waits.items ≡ []
    by true going =
        let count : stage.stage.dumper.appended.count ≡ stage.stage.dumper.published.count = ap (λ (f : Front). f.count) same in
        numbered_none stage.stage.dumper.published.count stage.waits.items (subst (λ n. AreNumbered stage.stage.dumper.published.count stage.waits.items n) count (watching.numbered going))
    by false stopped = watching.none stopped

-- one that stopped
pub watching_stopped : (stage : WatchedStage) → stage.hands ≡ false → stage.waits.items ≡ [] → stage.stage.dumper.appended.count ≤ stage.stage.dumper.published.count + 4_096 → IsWatching stage
watching_stopped stage stopped none near = record {
  numbered = λ going. absurd (let e = going in let f = stopped in cc);
  none = λ _. none;
  few = let nothing : length stage.waits.items ≡ 0 = ap length none in omega (arith, nothing);
  near = near;
}

module _ {W : Type 0} (kept : W → List OutputUnit) (ended : W → Bool) where
  -- what waits behind a turn that let these units wait
  watching_on : (old new : WatchedStage) (units : List OutputUnit) (watch later : W) → IsWatching old → new.hands ≡ old.hands
      → (old.hands ≡ true → AreNumbered old.stage.dumper.appended.count units new.stage.dumper.appended.count) → (old.hands ≡ false → units ≡ [])
      → PublishesOn old.stage.dumper new.stage.dumper → new.stage.dumper.appended.count ≤ new.stage.dumper.published.count + 4_096
      → HandsUpTo kept ended new.stage.dumper.published.count (old.waits.items ++ units) new.waits.items watch later → IsWatching new
  watching_on old new units watch later watching same numbered none publishes near h = record { numbered = on; none = nothing; few = few_by new.hands refl; near = near }
    where
      on : new.hands ≡ true → AreNumbered new.stage.dumper.published.count new.waits.items new.stage.dumper.appended.count
      on going =
          let was : old.hands ≡ true = sym same ∙ going in
          numbered_rest old.stage.dumper.published.count new.stage.dumper.published.count new.stage.dumper.appended.count h.handed new.waits.items publishes.later publishes.behind h.reached h.behind
          (subst (λ l. AreNumbered old.stage.dumper.published.count l new.stage.dumper.appended.count) h.split
          (numbered_more old.stage.dumper.published.count old.stage.dumper.appended.count new.stage.dumper.appended.count old.waits.items units (watching.numbered was) (numbered was)))

      nothing : new.hands ≡ false → new.waits.items ≡ []
      nothing stopped =
          let was : old.hands ≡ false = sym same ∙ stopped in
          rest_empty h.handed new.waits.items (sym h.split ∙ ap (λ l. l ++ units) (watching.none was) ∙ none was)

      few_by : (hands : Bool) → new.hands ≡ hands → length new.waits.items ≤ 4_096
      few_by true going = let count = numbered_length new.stage.dumper.published.count new.stage.dumper.appended.count new.waits.items (on going) in omega (arith, count, near)
      few_by false stopped = let empty : length new.waits.items ≡ 0 = ap length (nothing stopped) in omega (arith, empty)

  -- as if none had been added
  with_none : (count : ℕ) (waits rest : List OutputUnit) (watch later : W) → HandsUpTo kept ended count waits rest watch later → HandsUpTo kept ended count (waits ++ []) rest watch later
  with_none count waits rest watch later h = subst (λ l. HandsUpTo kept ended count l rest watch later) (sym (append-nil waits)) h

  -- a turn that let nothing wait: it had stopped, or nothing was appended
  pub watching_none : (old new : WatchedStage) (item : DumpItem) (watch later : W) → IsWatching old → new.hands ≡ old.hands → Appends old.stage.dumper.appended item new.stage.dumper.appended
      → (old.hands ≡ true → new.stage.dumper.appended.count ≤ old.stage.dumper.appended.count) → PublishesOn old.stage.dumper new.stage.dumper → new.stage.dumper.appended.count ≤ new.stage.dumper.published.count + 4_096
      → HandsUpTo kept ended new.stage.dumper.published.count old.waits.items new.waits.items watch later → IsWatching new
  watching_none old new item watch later watching same appends low publishes near h =
      let a = was_appended old.stage.dumper.appended new.stage.dumper.appended item appends in
      watching_on old new [] watch later watching same
      (λ was. subst (λ l. AreNumbered old.stage.dumper.appended.count l new.stage.dumper.appended.count) (none_appended old.stage.dumper.appended.count new.stage.dumper.appended.count item a (low was)) a.numbered)
      (λ _. refl) publishes near (with_none new.stage.dumper.published.count old.waits.items new.waits.items watch later h)

  pub hands_none : (old new : WatchedStage) (item : DumpItem) (watch later : W) → IsWatching old → new.hands ≡ old.hands → Appends old.stage.dumper.appended item new.stage.dumper.appended
      → (old.hands ≡ true → new.stage.dumper.appended.count ≤ old.stage.dumper.appended.count) → PublishesOn old.stage.dumper new.stage.dumper
      → HandsUpTo kept ended new.stage.dumper.published.count old.waits.items new.waits.items watch later → HandsOn kept ended old (item ∷ []) new watch later
  hands_none old new item watch later watching same appends low publishes h =
      let a = was_appended old.stage.dumper.appended new.stage.dumper.appended item appends in
      record {
        appended = a.appended;
        among = a.among;
        numbered = a.numbered;
        published = publishes.later;
        handed = h.handed;
        left = new.waits.items ++ a.appended;
        split = ap (λ l. l ++ a.appended) h.split ∙ append_assoc h.handed new.waits.items a.appended;
        waits = λ going. sym (ap (λ l. new.waits.items ++ l) (none_appended old.stage.dumper.appended.count new.stage.dumper.appended.count item a (low (sym same ∙ going))) ∙ append-nil new.waits.items);
        reached = h.reached;
        closed = λ stopped. (same ∙ stopped, front_empty h.handed new.waits.items (sym h.split ∙ watching.none stopped));
        stops = λ was gone none. let e : new.hands ≡ true = same ∙ was in let f = gone in cc;
        heard = ended later;
        got = h.got;
        goes = λ _. refl;
        ends = λ was gone. absurd (let e : new.hands ≡ true = same ∙ was in let f = gone in cc);
      }

  -- a turn that let the item's unit wait
  pub watching_one : (old new : WatchedStage) (item : DumpItem) (watch later : W) → IsWatching old → old.hands ≡ true → new.hands ≡ old.hands → Appends old.stage.dumper.appended item new.stage.dumper.appended
      → old.stage.dumper.appended.count < new.stage.dumper.appended.count → PublishesOn old.stage.dumper new.stage.dumper → new.stage.dumper.appended.count ≤ new.stage.dumper.published.count + 4_096
      → HandsUpTo kept ended new.stage.dumper.published.count (old.waits.items ++ units_among (item ∷ [])) new.waits.items watch later → IsWatching new
  watching_one old new item watch later watching was same appends high publishes near h =
      let a = was_appended old.stage.dumper.appended new.stage.dumper.appended item appends in
      watching_on old new (units_among (item ∷ [])) watch later watching same
      (λ _. subst (λ l. AreNumbered old.stage.dumper.appended.count l new.stage.dumper.appended.count) (all_appended old.stage.dumper.appended.count new.stage.dumper.appended.count item a high) a.numbered)
      (λ stopped. absurd (let e = was in let f = stopped in cc)) publishes near h

  pub hands_one : (old new : WatchedStage) (item : DumpItem) (watch later : W) → old.hands ≡ true → new.hands ≡ old.hands → Appends old.stage.dumper.appended item new.stage.dumper.appended
      → old.stage.dumper.appended.count < new.stage.dumper.appended.count → PublishesOn old.stage.dumper new.stage.dumper
      → HandsUpTo kept ended new.stage.dumper.published.count (old.waits.items ++ units_among (item ∷ [])) new.waits.items watch later → HandsOn kept ended old (item ∷ []) new watch later
  hands_one old new item watch later was same appends high publishes h =
      let a = was_appended old.stage.dumper.appended new.stage.dumper.appended item appends in
      record {
        appended = a.appended;
        among = a.among;
        numbered = a.numbered;
        published = publishes.later;
        handed = h.handed;
        left = new.waits.items;
        split = ap (λ l. old.waits.items ++ l) (all_appended old.stage.dumper.appended.count new.stage.dumper.appended.count item a high) ∙ h.split;
        waits = λ _. refl;
        reached = h.reached;
        closed = λ stopped. absurd (let e = was in let f = stopped in cc);
        stops = λ _ gone none. let e : new.hands ≡ true = same ∙ was in let f = gone in cc;
        heard = ended later;
        got = h.got;
        goes = λ _. refl;
        ends = λ _ gone. absurd (let e : new.hands ≡ true = same ∙ was in let f = gone in cc);
      }

  -- a turn that had no room for the item's unit
  pub hands_stopped : (old new : WatchedStage) (item : DumpItem) (rest : List OutputUnit) (watch mid later : W) → old.hands ≡ true → new.hands ≡ false → Appends old.stage.dumper.appended item new.stage.dumper.appended
      → old.stage.dumper.appended.count < new.stage.dumper.appended.count → old.stage.dumper.published.count ≤ new.stage.dumper.published.count → (units_among (item ∷ []) ≡ [] → ⊥)
      → HandsUpTo kept ended new.stage.dumper.published.count old.waits.items rest watch mid → kept later ≡ kept mid → ended later ≡ true → HandsOn kept ended old (item ∷ []) new watch later
  hands_stopped old new item rest watch mid later was gone appends high up some h same_kept now_ended =
      let a = was_appended old.stage.dumper.appended new.stage.dumper.appended item appends in
      record {
        appended = a.appended;
        among = a.among;
        numbered = a.numbered;
        published = up;
        handed = h.handed;
        left = rest ++ a.appended;
        split = ap (λ l. l ++ a.appended) h.split ∙ append_assoc h.handed rest a.appended;
        waits = λ going. absurd (let e = going in let f = gone in cc);
        reached = h.reached;
        closed = λ stopped. absurd (let e = was in let f = stopped in cc);
        stops = λ _ _ none. some (sym (all_appended old.stage.dumper.appended.count new.stage.dumper.appended.count item a high) ∙ none);
        heard = ended mid;
        got = subst (λ l. HasGot (kept watch) (ended watch) h.handed l (ended mid)) (sym same_kept) h.got;
        goes = λ same. absurd (let e : new.hands ≡ true = same ∙ was in let f = gone in cc);
        ends = λ _ _. now_ended;
      }
