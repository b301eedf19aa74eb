-- The laws of handing on: where nothing is done nothing is handed on, and one run after another is one run.
use Rattle.std.specs.Prelude.{◌≡◌, ℕ, ◌+◌, ◌≤◌, ◌⊎◌, Bool, true, false, List, [], ◌∷◌, ◌++◌, refl}
use Rattle.std.specs.List.{AllByRecursion}
use Rattle.std.proofs.Common.{inl, inr, sym, ◌∙◌, ap, subst, arith, append-nil, append_assoc}
use Rattle.cdc_model.specs.Records.{OutputUnit}
use Rattle.cdc_dumper.specs.State.{DumperState}
use Rattle.cdc_item.specs.declared.dump_item.DumpItem.{DumpItem}
use Rattle.cdc_item.specs.declared.dump_item.DumpItem.TheVariants.{Unit as OneUnit, End}
use Rattle.cdc_item.specs.Item.{units_among}
use Rattle.cdc_watched_stage.specs.declared.stage.WatchedStage.{WatchedStage}
use Rattle.cdc_watched_stage.specs.Getting.{Gets, HasGot}
use Rattle.cdc_watched_stage.specs.Handing.{AreNumbered, IsPartOf, HandsOn}

-- what is in front of nothing is nothing
pub front_empty : {A : Type 0} (xs ys : List A) → xs ++ ys ≡ [] → xs ≡ []
front_empty [] ys none = refl
front_empty (x ∷ xs) ys none = absurd cc

-- and so is what is behind
pub rest_empty : {A : Type 0} (xs ys : List A) → xs ++ ys ≡ [] → ys ≡ []
rest_empty [] ys none = none
rest_empty (x ∷ xs) ys none = absurd cc

-- a watch that kept nothing and has ended
pub gets_none : (kept : List OutputUnit) (ended : Bool) (unit : OutputUnit) (later : List OutputUnit) (later_ended : Bool) → later ≡ kept → later_ended ≡ true → Gets kept ended unit later later_ended
gets_none kept false unit later later_ended same gone = inr (same, gone)
gets_none kept true unit later later_ended same gone = (same, gone)

-- one that kept its unit
pub gets_unit : (kept : List OutputUnit) (ended : Bool) (unit : OutputUnit) (later : List OutputUnit) (later_ended : Bool) → ended ≡ false → later ≡ kept ++ unit ∷ [] → later_ended ≡ false → Gets kept ended unit later later_ended
gets_unit kept false unit later later_ended was more going = inl (more, going)
gets_unit kept true unit later later_ended was more going = absurd (let e = was in cc)

-- a watch that was given nothing
pub got_none : (kept : List OutputUnit) (ended : Bool) → HasGot kept ended [] kept ended
got_none kept ended = record { got = []; left = []; split = refl; keeps = sym (append-nil kept); all = λ going. (going, refl); none = λ was. refl; why = λ is. inl is }

-- one that was given one unit
pub got_one : (kept : List OutputUnit) (ended : Bool) (unit : OutputUnit) (later : List OutputUnit) (later_ended : Bool) → Gets kept ended unit later later_ended → HasGot kept ended (unit ∷ []) later later_ended
got_one kept false unit later later_ended (inl (is, going)) = record {
  got = unit ∷ [];
  left = [];
  split = refl;
  keeps = is;
  all = λ _. (refl, refl);
  none = λ was. absurd (let e = was in cc);
  why = λ gone. absurd (let e = gone in let f = going in cc);
}
got_one kept false unit later later_ended (inr (is, gone)) = record {
  got = [];
  left = unit ∷ [];
  split = refl;
  keeps = is ∙ sym (append-nil kept);
  all = λ going. absurd (let e = gone in let f = going in cc);
  none = λ was. refl;
  why = λ _. inr (λ none. let e = none in cc);
}
got_one kept true unit later later_ended (is, gone) = record {
  got = [];
  left = unit ∷ [];
  split = refl;
  keeps = is ∙ sym (append-nil kept);
  all = λ going. absurd (let e = gone in let f = going in cc);
  none = λ was. refl;
  why = λ _. inl refl;
}

-- some are left still, where more is given
still_left : (ended : Bool) (left more : List OutputUnit) → (ended ≡ true) ⊎ (left ≡ [] → ⊥) → (ended ≡ true) ⊎ (left ++ more ≡ [] → ⊥)
still_left ended left more (inl was) = inl was
still_left ended left more (inr some) = inr (λ none. some (front_empty left more none))

-- the second to end is the first, where the first went on
ends_first : (ended : Bool) (left : List OutputUnit) → (false ≡ true) ⊎ (left ≡ [] → ⊥) → (ended ≡ true) ⊎ (left ≡ [] → ⊥)
ends_first ended left (inl is) = absurd (let e = is in cc)
ends_first ended left (inr some) = inr some

-- one that was given more behind what it was given
pub got_on : (kept : List OutputUnit) (ended : Bool) (xs mid : List OutputUnit) (mid_ended : Bool) (ys later : List OutputUnit) (later_ended : Bool)
    → HasGot kept ended xs mid mid_ended → HasGot mid mid_ended ys later later_ended → HasGot kept ended (xs ++ ys) later later_ended
got_on kept ended xs mid true ys later later_ended p q = record {
  got = p.got;
  left = p.left ++ ys;
  split = ap (λ l. l ++ ys) p.split ∙ append_assoc p.got p.left ys;
  keeps = q.keeps ∙ ap (λ l. mid ++ l) (q.none refl) ∙ append-nil mid ∙ p.keeps;
  all = λ going. absurd (let e = (q.all going).0 in cc);
  none = p.none;
  why = λ _. still_left ended p.left ys (p.why refl);
}
got_on kept ended xs mid false ys later later_ended p q = record {
  got = p.got ++ q.got;
  left = q.left;
  split = ap (λ l. l ++ ys) (p.split ∙ ap (λ l. p.got ++ l) (p.all refl).1 ∙ append-nil p.got) ∙ ap (λ l. p.got ++ l) q.split ∙ sym (append_assoc p.got q.got q.left);
  keeps = q.keeps ∙ ap (λ l. l ++ q.got) p.keeps ∙ append_assoc kept p.got q.got;
  all = λ going. ((p.all refl).0, (q.all going).1);
  none = λ was. absurd (let e = was in let f = (p.all refl).0 in cc);
  why = λ gone. ends_first ended q.left (q.why gone);
}

-- one that was given nothing is as it was
same_kept : (kept : List OutputUnit) (ended : Bool) (units later : List OutputUnit) (later_ended : Bool) → units ≡ [] → HasGot kept ended units later later_ended → later ≡ kept
same_kept kept ended units later later_ended nothing p = p.keeps ∙ ap (λ l. kept ++ l) (front_empty p.got p.left (sym p.split ∙ nothing)) ∙ append-nil kept

same_ended : (kept : List OutputUnit) (ended : Bool) (units later : List OutputUnit) (later_ended : Bool) → units ≡ [] → HasGot kept ended units later later_ended → later_ended ≡ ended
same_ended kept ended units later false nothing p = sym (p.all refl).0
same_ended kept ended units later true nothing p = by (p.why refl)
  where
    by : (ended ≡ true) ⊎ (p.left ≡ [] → ⊥) → true ≡ ended
    by (inl was) = sym was
    by (inr some) = absurd (some (rest_empty p.got p.left (sym p.split ∙ nothing)))

-- parts of two lists are parts of both
pub parts_more : (xs all ys more : List OutputUnit) → IsPartOf xs all → IsPartOf ys more → IsPartOf (xs ++ ys) (all ++ more)
parts_more xs [] ys more none part = subst (λ l. IsPartOf (l ++ ys) more) (sym none) part
parts_more xs (one ∷ all) ys more (inl first) part = inl (parts_more xs all ys more first part)
parts_more xs (one ∷ all) ys more (inr (rest, is, first)) part = inr (rest ++ ys, ap (λ l. l ++ ys) is, parts_more rest all ys more first part)

-- numbers go on behind numbers
pub numbered_more : (from mid to : ℕ) (xs ys : List OutputUnit) → AreNumbered from xs mid → AreNumbered mid ys to → AreNumbered from (xs ++ ys) to
numbered_more from mid to [] ys is rest = subst (λ n. AreNumbered n ys to) (sym is) rest
numbered_more from mid to (x ∷ xs) ys (number, more) rest = (number, numbered_more (from + 1) mid to xs ys more rest)

-- numbers up to a count are up to a later one
pub reached_up : (count later : ℕ) → count ≤ later → (units : List OutputUnit) → AllByRecursion (λ (u : OutputUnit). u.number ≤ count) units → AllByRecursion (λ (u : OutputUnit). u.number ≤ later) units
reached_up count later up [] all = tt
reached_up count later up (unit ∷ units) (first, rest) = (omega (arith, first, up), reached_up count later up units rest)

-- those of two lists are up to a count
pub reached_more : (count : ℕ) (xs ys : List OutputUnit) → AllByRecursion (λ (u : OutputUnit). u.number ≤ count) xs → AllByRecursion (λ (u : OutputUnit). u.number ≤ count) ys → AllByRecursion (λ (u : OutputUnit). u.number ≤ count) (xs ++ ys)
reached_more count [] ys first second = second
reached_more count (unit ∷ units) ys (here, rest) second = (here, reached_more count units ys rest second)

-- the units among the items of two runs
pub among_more : (xs ys : List DumpItem) → units_among (xs ++ ys) ≡ units_among xs ++ units_among ys
among_more [] ys = refl
among_more (OneUnit unit ∷ xs) ys = ap (λ l. unit ∷ l) (among_more xs ys)
among_more (End ∷ xs) ys = among_more xs ys

module _ {W : Type 0} (kept : W → List OutputUnit) (ended : W → Bool) where
  -- where nothing is taken, nothing is handed on
  pub handed_none : (old new : WatchedStage) (watch : W) → new.stage.dumper ≡ old.stage.dumper → new.waits.items ≡ old.waits.items → new.hands ≡ old.hands → HandsOn kept ended old [] new watch watch
  handed_none old new watch same_dumper same_waits same_hands = record {
    appended = [];
    among = refl;
    numbered = ap (λ (d : DumperState). d.appended.count) (sym same_dumper);
    published = let same : new.stage.dumper.published.count ≡ old.stage.dumper.published.count = ap (λ (d : DumperState). d.published.count) same_dumper in omega (arith, same);
    handed = [];
    left = old.waits.items;
    split = append-nil old.waits.items;
    waits = λ _. same_waits;
    reached = tt;
    closed = λ was. (same_hands ∙ was, refl);
    stops = λ was gone none. let e : new.hands ≡ true = same_hands ∙ was in let f = gone in cc;
    heard = ended watch;
    got = got_none (kept watch) (ended watch);
    goes = λ _. refl;
    ends = λ was gone. absurd (let e : new.hands ≡ true = same_hands ∙ was in let f = gone in cc);
  }

  -- one that goes on went on before
  went_on : (a b : WatchedStage) (xs : List DumpItem) (first second : W) (hands : Bool) → a.hands ≡ hands → b.hands ≡ true → HandsOn kept ended a xs b first second → a.hands ≡ true
  went_on a b xs first second true is going p = is
  went_on a b xs first second false is going p = absurd (let e = (p.closed is).0 in let f = going in cc)

  -- a run behind one that goes on
  behind_going : (a b c : WatchedStage) (xs ys : List DumpItem) (first second third : W) → b.hands ≡ true → a.hands ≡ true → HandsOn kept ended a xs b first second → HandsOn kept ended b ys c second third → HandsOn kept ended a (xs ++ ys) c first third
  behind_going a b c xs ys first second third going was p q = record {
    appended = p.appended ++ q.appended;
    among = subst (λ l. IsPartOf (p.appended ++ q.appended) l) (sym (among_more xs ys)) (parts_more p.appended (units_among xs) q.appended (units_among ys) p.among q.among);
    numbered = numbered_more a.stage.dumper.appended.count b.stage.dumper.appended.count c.stage.dumper.appended.count p.appended q.appended p.numbered q.numbered;
    published = let up = p.published in let on = q.published in omega (arith, up, on);
    handed = p.handed ++ q.handed;
    left = q.left;
    split = sym (append_assoc a.waits.items p.appended q.appended) ∙ ap (λ l. l ++ q.appended) p.split ∙ append_assoc p.handed p.left q.appended
        ∙ ap (λ l. p.handed ++ (l ++ q.appended)) (sym (p.waits going)) ∙ ap (λ l. p.handed ++ l) q.split ∙ sym (append_assoc p.handed q.handed q.left);
    waits = q.waits;
    reached = reached_more c.stage.dumper.published.count p.handed q.handed (reached_up b.stage.dumper.published.count c.stage.dumper.published.count q.published p.handed p.reached) q.reached;
    closed = λ closed. absurd (let e = closed in let f = was in cc);
    stops = λ _ gone none. q.stops going gone (rest_empty p.appended q.appended none);
    heard = q.heard;
    got = got_on (kept first) (ended first) p.handed (kept second) (ended second) q.handed (kept third) q.heard
        (subst (λ e. HasGot (kept first) (ended first) p.handed (kept second) e) (sym (p.goes (going ∙ sym was))) p.got) q.got;
    goes = λ same. q.goes (same ∙ was ∙ sym going);
    ends = λ _ gone. q.ends going gone;
  }

  -- a run behind one that stopped
  behind_stopped : (a b c : WatchedStage) (xs ys : List DumpItem) (first second third : W) → b.hands ≡ false → HandsOn kept ended a xs b first second → HandsOn kept ended b ys c second third → HandsOn kept ended a (xs ++ ys) c first third
  behind_stopped a b c xs ys first second third stopped p q =
      let still = q.closed stopped in
      let same_list : kept third ≡ kept second = same_kept (kept second) (ended second) q.handed (kept third) q.heard still.1 q.got in
      let same_end : ended third ≡ ended second = q.goes (still.0 ∙ sym stopped) ∙ same_ended (kept second) (ended second) q.handed (kept third) q.heard still.1 q.got in
      record {
        appended = p.appended ++ q.appended;
        among = subst (λ l. IsPartOf (p.appended ++ q.appended) l) (sym (among_more xs ys)) (parts_more p.appended (units_among xs) q.appended (units_among ys) p.among q.among);
        numbered = numbered_more a.stage.dumper.appended.count b.stage.dumper.appended.count c.stage.dumper.appended.count p.appended q.appended p.numbered q.numbered;
        published = let up = p.published in let on = q.published in omega (arith, up, on);
        handed = p.handed;
        left = p.left ++ q.appended;
        split = sym (append_assoc a.waits.items p.appended q.appended) ∙ ap (λ l. l ++ q.appended) p.split ∙ append_assoc p.handed p.left q.appended;
        waits = λ going. absurd (let e = going in let f = still.0 in cc);
        reached = reached_up b.stage.dumper.published.count c.stage.dumper.published.count q.published p.handed p.reached;
        closed = λ was. (still.0, (p.closed was).1);
        stops = λ was _ none. p.stops was stopped (front_empty p.appended q.appended none);
        heard = p.heard;
        got = subst (λ l. HasGot (kept first) (ended first) p.handed l p.heard) (sym same_list) p.got;
        goes = λ same. same_end ∙ p.goes (stopped ∙ sym still.0 ∙ same);
        ends = λ was _. same_end ∙ p.ends was stopped;
      }

  by_second : (a b c : WatchedStage) (xs ys : List DumpItem) (first second third : W) (hands : Bool) → b.hands ≡ hands → HandsOn kept ended a xs b first second → HandsOn kept ended b ys c second third → HandsOn kept ended a (xs ++ ys) c first third
  by_second a b c xs ys first second third true going p q = behind_going a b c xs ys first second third going (went_on a b xs first second a.hands refl going p) p q
  by_second a b c xs ys first second third false stopped p q = behind_stopped a b c xs ys first second third stopped p q

  -- one run after another is one run
  pub handed_on : (a b c : WatchedStage) (xs ys : List DumpItem) (first second third : W) → HandsOn kept ended a xs b first second → HandsOn kept ended b ys c second third → HandsOn kept ended a (xs ++ ys) c first third
  handed_on a b c xs ys first second third p q = by_second a b c xs ys first second third b.hands refl p q
