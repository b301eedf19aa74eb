-- A turn, from its steps.
use Rattle.std.proofs.Common.{◌≡◌, ◌⊎◌, inl, inr, ℕ, ◌+◌, ◌*◌, ◌≤◌, ◌<◌, Bool, true, false, List, [], ◌∷◌, length, get_or, set, refl, sym, ◌∙◌, ap, subst, arith, Option, None, is_some, if◌then◌else◌}
use Rattle.std.proofs.lemmas.List.{length-set}
use Rattle.cdc_turns.specs.declared.turn.Turn.{Turn}
use Rattle.cdc_turns.specs.declared.turn.Turn.TheVariants.{Moved, Blocked, Done}
use Rattle.cdc_turns.specs.Ends.{EndsAs}
use Rattle.cdc_turns.specs.Joined.{joined, total, nothing_for}
use Rattle.cdc_turns.proofs.Lanewise.{joined_nothing}
use Rattle.cdc_turns.proofs.Pairwise.{zip_long}
use Rattle.cdc_turns.proofs.Turnings.{turned_same}
use Rattle.cdc_item.specs.declared.node_item.NodeItem.{NodeItem}
use Rattle.cdc_item.specs.declared.dump_item.DumpItem.{DumpItem}
use Rattle.cdc_item.specs.Item.{closes_node_window}
use Rattle.cdc_merge_stage.specs.declared.merge_end.MergeEnd.{MergeEnd}
use Rattle.cdc_merge_stage.specs.declared.merge_end.MergeEnd.TheVariants.{Open, Whole, Memory}
use Rattle.cdc_merge_stage.specs.Merged.{MergeState, MergeDid, IsSameMerge, HasPassed, IsOut, unit_cost, merge_work, has_ended, all_none, all_true, merges_on, waiting_in}
use Rattle.cdc_merge_stage.specs.Passing.{HasAccepted, TakesOff, Pushes, PushesFirst, pushed, MergeTurn, ComesTo, Turned}
use Rattle.cdc_merge_stage.specs.MergeLaws.{same_itself, same_then}
use Rattle.cdc_merge_stage.proofs.Accepting.{did_more}
use Rattle.cdc_merge_stage.proofs.Flags.{not_ended, not_given}
use Rattle.cdc_merge_stage.proofs.Places.{same_nothing, total_nothing, total_one}
use Rattle.cdc_merge_stage.proofs.Pushing.{did_pushed}
use Rattle.cdc_merge_stage.proofs.Works.{waiting_less, given_at, not_all_none, push_costs, take_costs}

pub reaches_itself : (s : MergeState) → has_ended s ≡ false → ComesTo s s 0
reaches_itself s going = record { did = λ window takes gives did. did; same = same_itself s; took = refl; gave = refl; cost = λ price. omega arith; going = going }

module _ {I O : Type 0} (moved_in : I → List NodeItem → I → Type 0) (empty : I → Type 0) (moved_out : O → List DumpItem → O → Type 0) (full : O → Type 0)
    (starts_in : (x : I) → moved_in x [] x) (starts_out : (x : O) → moved_out x [] x) (old : MergeState) (ins : List I) (outs : List O) (many_ins : length ins ≡ length old.took) (many_outs : length outs ≡ length old.slots) where
  -- nothing went through a lane
  passed_none : (mid : MergeState) (slack : ℕ) → ComesTo old mid slack → HasPassed old (nothing_for ins) (nothing_for outs) mid
  passed_none mid slack r = record {
    did = λ window takes gives did.
        let long_in = zip_long (EndsAs closes_node_window window) old.took takes did.ins in
        let long_out = zip_long (IsOut window old.closing) old.slots gives did.outs in
        subst (λ (l : List (List NodeItem)). MergeDid window mid l (joined gives (nothing_for outs))) (sym (joined_nothing takes ins (many_ins ∙ long_in)))
        (subst (λ (l : List (List DumpItem)). MergeDid window mid takes l) (sym (joined_nothing gives outs (many_outs ∙ long_out))) (r.did window takes gives did));
    same = r.same;
  }

  cost_none : (mid : MergeState) (slack moves : ℕ) → ComesTo old mid slack → moves ≤ slack → (price : ℕ) → merge_work mid price + price * total (nothing_for {T = DumpItem} outs) + moves ≤ merge_work old price + (unit_cost old price + 1) * total (nothing_for {T = NodeItem} ins)
  cost_none mid slack moves r less price =
      let cost = r.cost price in
      let out : price * total (nothing_for {T = DumpItem} outs) ≡ price * 0 = ap (λ n. price * n) (total_nothing DumpItem outs) in
      omega (arith, cost, out, less)

  -- the Ends were given before
  pub turn_done : has_ended old ≡ true → Turned moved_in empty moved_out full old ins outs old ins outs Done
  turn_done ended = (
    nothing_for ins,
    nothing_for outs,
    turned_same moved_in starts_in ins,
    turned_same moved_out starts_out outs,
    record {
      passed = record {
        did = λ window takes gives did.
            let long_in = zip_long (EndsAs closes_node_window window) old.took takes did.ins in
            let long_out = zip_long (IsOut window old.closing) old.slots gives did.outs in
            subst (λ (l : List (List NodeItem)). MergeDid window old l (joined gives (nothing_for outs))) (sym (joined_nothing takes ins (many_ins ∙ long_in)))
            (subst (λ (l : List (List DumpItem)). MergeDid window old takes l) (sym (joined_nothing gives outs (many_outs ∙ long_out))) did);
        same = same_itself old;
      };
      cost = λ price. let out : price * total (nothing_for {T = DumpItem} outs) ≡ price * 0 = ap (λ n. price * n) (total_nothing DumpItem outs) in omega (arith, out);
      says = (ended, ended, record { none_taken = refl; none_given = refl; took = refl; gave = refl });
    },
  )

  -- how the merging ended was recorded, or there is no output
  pub turn_alone : (mid : MergeState) → ComesTo old mid 1 → Turned moved_in empty moved_out full old ins outs mid ins outs Moved
  turn_alone mid r = (
    nothing_for ins,
    nothing_for outs,
    turned_same moved_in starts_in ins,
    turned_same moved_out starts_out outs,
    record { passed = passed_none mid 1 r; cost = cost_none mid 1 1 r (omega arith); says = r.going },
  )

  -- what waited for an output's lane went onto it, or it was full
  pub turn_pushed : (mid new : MergeState) (slack out : ℕ) (later : List O) (turn : Turn) → ComesTo old mid slack → out < length mid.slots → is_some (get_or mid.slots out None) ≡ true → Pushes moved_out full mid outs out new later turn
      → length later ≡ length outs → Turned moved_in empty moved_out full old ins outs new ins later turn
  turn_pushed mid new slack out later Moved r within some (item, waits, is, moved) long =
      let mid_outs : length outs ≡ length mid.slots = many_outs ∙ sym r.same.outs in
      let mid_ins : length ins ≡ length mid.took = many_ins ∙ sym (ap length r.took) in (
        nothing_for ins,
        set (nothing_for outs) out (item ∷ []),
        turned_same moved_in starts_in ins,
        moved,
        record {
          passed = subst (λ (s : MergeState). HasPassed old (nothing_for ins) (set (nothing_for outs) out (item ∷ [])) s) (sym is) (record {
            did = λ window takes gives did. did_pushed mid out item ins outs waits within mid_ins mid_outs window takes gives (r.did window takes gives did);
            same = same_then old mid (pushed mid out) r.same (record { start = refl; rules = refl; rotation = refl; nodes = refl; outs = length-set mid.slots out None });
          });
          cost = λ price.
              let costs = r.cost price in
              let rest = unit_cost mid price * (mid.maker.credit + (if mid.closing then 0 else 1)) + (if merges_on mid.end then 1 else 0) in
              let less = push_costs price (waiting_in mid.slots) (waiting_in (set mid.slots out None)) rest (waiting_less mid.slots out item waits) in
              let one : price * total (set (nothing_for outs) out (item ∷ [])) ≡ price * 1 = ap (λ n. price * n) (total_one outs out item (omega (arith, within, mid_outs))) in
              let work : merge_work new price ≡ merge_work (pushed mid out) price = ap (λ (s : MergeState). merge_work s price) is in
              let long_slots = length-set mid.slots out None in
              let unit : unit_cost (pushed mid out) price * (mid.maker.credit + (if mid.closing then 0 else 1)) ≡ unit_cost mid price * (mid.maker.credit + (if mid.closing then 0 else 1)) =
              ap (λ n. ((price + 1) * n + 1) * (mid.maker.credit + (if mid.closing then 0 else 1))) long_slots in
              omega (arith, costs, less, one, work, unit);
          says = r.going;
        },
      )
  turn_pushed mid new slack out later Blocked r within some (is, moved, lane_full) long = (
    nothing_for ins,
    nothing_for outs,
    turned_same moved_in starts_in ins,
    moved,
    subst (λ (s : MergeState). MergeTurn empty full old (nothing_for ins) (nothing_for outs) s ins later Blocked) (sym is) (record {
      passed = passed_none mid slack r;
      cost = cost_none mid slack 0 r (omega arith);
      says = (
        r.going,
        not_given (all_true mid.took) mid.closing (all_none mid.slots) (not_all_none mid.slots out some),
        record { none_taken = refl; none_given = same_nothing DumpItem outs later (sym long); took = r.took; gave = r.gave },
        inr (out, (let o = many_outs in let same = r.same.outs in omega (arith, within, long, o, same)), lane_full, given_at mid.closing mid.slots out within some),
      );
    }),
  )
  turn_pushed mid new slack out later Done r within some pushes long = absurd pushes

  pub turn_first : (mid new : MergeState) (later : List O) (turn : Turn) → ComesTo old mid 1 → PushesFirst moved_out full mid outs new later turn → length later ≡ length outs → Turned moved_in empty moved_out full old ins outs new ins later turn
  turn_first mid new later turn r (inl (out, within, some, pushes)) long = turn_pushed mid new 1 out later turn r within some pushes long
  turn_first mid new later turn r (inr (none, is, same, moved)) long =
      subst (λ (t : Turn). Turned moved_in empty moved_out full old ins outs new ins later t) (sym moved)
      (subst (λ (l : List O). Turned moved_in empty moved_out full old ins outs new ins l Moved) (sym same)
      (subst (λ (s : MergeState). Turned moved_in empty moved_out full old ins outs s ins outs Moved) (sym is) (turn_alone mid r)))

  same_accepted : (mid new : MergeState) (node : ℕ) (item : NodeItem) → HasAccepted mid node item new → IsSameMerge mid new
  same_accepted mid new node item h = record { start = h.start; rules = h.rules; rotation = h.rotation; nodes = ap length h.took ∙ by (closes_node_window item); outs = ap length h.slots }
    where
      by : (b : Bool) → length (if b then set mid.took node true else mid.took) ≡ length mid.took
      by true = length-set mid.took node true
      by false = refl

  flag_less : (mid new : MergeState) → (new.end ≡ mid.end) ⊎ ((mid.end ≡ Open) × (new.end ≡ Memory)) → (if merges_on new.end then 1 else 0) ≤ (if merges_on mid.end then 1 else 0)
  flag_less mid new (inl same) = let e : ◌≡◌ {A = ℕ} (if merges_on new.end then 1 else 0) (if merges_on mid.end then 1 else 0) = ap (λ (x : MergeEnd). if merges_on x then 1 else 0) same in omega (arith, e)
  flag_less mid new (inr (was, is)) = let e : ◌≡◌ {A = ℕ} (if merges_on new.end then 1 else 0) 0 = ap (λ (x : MergeEnd). if merges_on x then 1 else 0) is in omega (arith, e)

  -- an item came off a node's lane, or it was empty
  pub turn_taken : (mid new : MergeState) (node : ℕ) (later : List I) (turn : Turn) → ComesTo old mid 0 → node < length mid.took → get_or mid.took node true ≡ false → mid.closing ≡ false → (mid.end ≡ Whole → ⊥) → TakesOff moved_in empty mid ins node new later turn
      → length later ≡ length ins → Turned moved_in empty moved_out full old ins outs new later outs turn
  turn_taken mid new node later Moved r within going closing not_whole (item, h, moved) long =
      let mid_outs : length outs ≡ length mid.slots = many_outs ∙ sym r.same.outs in
      let mid_ins : length ins ≡ length mid.took = many_ins ∙ sym (ap length r.took) in (
        set (nothing_for ins) node (item ∷ []),
        nothing_for outs,
        moved,
        turned_same moved_out starts_out outs,
        record {
          passed = record {
            did = λ window takes gives did. did_more mid new node item h within going not_whole ins outs mid_ins mid_outs window takes gives (r.did window takes gives did);
            same = same_then old mid new r.same (same_accepted mid new node item h);
          };
          cost = λ price.
              let costs = r.cost price in
              let none : price * total (nothing_for {T = DumpItem} outs) ≡ price * 0 = ap (λ n. price * n) (total_nothing DumpItem outs) in
              let one : (unit_cost old price + 1) * total (set (nothing_for ins) node (item ∷ [])) ≡ (unit_cost old price + 1) * 1 = ap (λ n. (unit_cost old price + 1) * n) (total_one ins node item (omega (arith, within, mid_ins))) in
              let unit : unit_cost old price ≡ unit_cost mid price = ap (λ n. (price + 1) * n + 1) (sym r.same.outs) in
              let waits : (price + 1) * waiting_in new.slots ≡ (price + 1) * waiting_in mid.slots = ap (λ (l : List (Option DumpItem)). (price + 1) * waiting_in l) h.slots in
              let more = take_costs (unit_cost mid price) mid.maker.credit new.maker.credit (if mid.closing then 0 else 1) (if merges_on mid.end then 1 else 0) (if merges_on new.end then 1 else 0) ((price + 1) * waiting_in mid.slots) h.credit (flag_less mid new h.ends) in
              let units : unit_cost new price * (new.maker.credit + (if new.closing then 0 else 1)) ≡ unit_cost mid price * (new.maker.credit + (if mid.closing then 0 else 1)) =
              ap (λ (l : List (Option DumpItem)). ((price + 1) * length l + 1) * (new.maker.credit + (if new.closing then 0 else 1))) h.slots
              ∙ ap (λ (c : Bool). unit_cost mid price * (new.maker.credit + (if c then 0 else 1))) h.closing in
              omega (arith, costs, none, one, unit, waits, more, units);
          says = r.going;
        },
      )
  turn_taken mid new node later Blocked r within going closing not_whole (is, moved, lane_empty) long = (
    nothing_for ins,
    nothing_for outs,
    moved,
    turned_same moved_out starts_out outs,
    subst (λ (s : MergeState). MergeTurn empty full old (nothing_for ins) (nothing_for outs) s later outs Blocked) (sym is) (record {
      passed = passed_none mid 0 r;
      cost = cost_none mid 0 0 r (omega arith);
      says = (
        r.going,
        not_ended (all_true mid.took) mid.closing (all_none mid.slots) closing,
        record { none_taken = same_nothing NodeItem ins later (sym long); none_given = refl; took = r.took; gave = r.gave },
        inl (node, (let o = many_ins in let same = ap length r.took in omega (arith, within, long, o, same)), lane_empty, going),
      );
    }),
  )
  turn_taken mid new node later Done r within going closing not_whole takes long = absurd takes
