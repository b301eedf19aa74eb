-- One turn of a job that sends, and of one that takes.
use Rattle.std.proofs.Common.{◌≡◌, ◌≤◌, ◌<◌, ℕ, ◌+◌, ◌-◌, ◌*◌, if◌then◌else◌, suc, Bool, true, false, List, [], ◌∷◌, ◌++◌, ap, sym, subst, refl, ◌∙◌, arith}
use Rattle.std.proofs.Math.Nat.{suc-mul}
use Rattle.cdc_lane.specs.declared.plain.PlainLane.{PlainLane}
use Rattle.cdc_lane.specs.Held.{WentIn, CameOut}
use Rattle.cdc_turns.specs.declared.turn.Turn.{Turn}
use Rattle.cdc_turns.specs.declared.turn.Turn.TheVariants.{Moved}
use Rattle.cdc_turns.specs.Ends.{EndsAs}
use Rattle.cdc_turns.specs.Turns.{Sends, TakesItems, is_move, one_if}
use Rattle.cdc_turns.proofs.Counting.{stays_open, closes_now, same_ends}
use Rattle.lane_tests.specs.declared.item.Item.{Item}
use Rattle.lane_tests.specs.declared.item.Item.TheVariants.{Number, End}
use Rattle.lane_tests.specs.declared.feeder.Feeder.{Feeder}
use Rattle.lane_tests.specs.declared.keeper.Keeper.{Keeper}
use Rattle.lane_tests.specs.Item.{is_closing}
use Rattle.lane_tests.specs.Jobs.{items_left, feeder_account, keeper_account}

-- an item more, in an open window
pub ends_on : (window : ℕ) (items : List Item) (item : Item) → EndsAs is_closing window false items → EndsAs is_closing window (is_closing item) (items ++ item ∷ [])
ends_on window items (Number number) ends = stays_open is_closing window items (Number number) refl ends
ends_on window items End ends = closes_now is_closing window items End refl ends

-- the same by what a job says of its window
pub ends_by : (window : ℕ) (before after : Bool) (items : List Item) (item : Item) → before ≡ false → after ≡ is_closing item → EndsAs is_closing window before items
    → EndsAs is_closing window after (items ++ item ∷ [])
ends_by window before after items item going now ends =
    subst (λ (b : Bool). EndsAs is_closing window b (items ++ item ∷ [])) (sym now)
    (ends_on window items item (subst (λ (b : Bool). EndsAs is_closing window b items) going ends))

still : (turn : Turn) → is_move turn ≡ false → ◌≡◌ {A = ℕ} (one_if (is_move turn)) 0
still turn e = ap one_if e

work_falls : (left before weight : ℕ) → suc left ≡ before → left * (weight + 1) + weight * 1 + 1 ≤ before * (weight + 1)
work_falls left before weight e =
    subst (λ (n : ℕ). left * (weight + 1) + weight * 1 + 1 ≤ n * (weight + 1)) e (omega (arith, suc-mul left (weight + 1)))

pub sends_none : (job : Feeder) (lane later : PlainLane Item) (turn : Turn) → WentIn lane [] later → is_move turn ≡ false → Sends feeder_account job job lane later turn
sends_none job lane later turn flows e = record {
  items = [];
  flows = flows;
  did = λ window before ends. same_ends is_closing window job.ended before ends;
  cost = λ weight. let none = still turn e in omega (arith, none);
  turned = tt;
}

pub sends_item : (old new : Feeder) (lane later : PlainLane Item) (item : Item) → WentIn lane (item ∷ []) later → old.ended ≡ false → new.ended ≡ is_closing item
    → suc (items_left new) ≡ items_left old → Sends feeder_account old new lane later Moved
sends_item old new lane later item flows going now left = record {
  items = item ∷ [];
  flows = flows;
  did = λ window before ends. ends_by window old.ended new.ended before item going now ends;
  cost = λ weight. work_falls (items_left new) (items_left old) weight left;
  turned = tt;
}

left_falls : (ended later_ended : Bool) (next later_next upto later_upto : ℕ) → ended ≡ false → later_ended ≡ ended → later_next ≡ next + 1 → later_upto ≡ upto → next < upto
    → suc (if later_ended then 0 else (later_upto - later_next) + 1) ≡ (if ended then 0 else (upto - next) + 1)
left_falls true later_ended next later_next upto later_upto going same moved bound below = absurd (cc)
left_falls false true next later_next upto later_upto going same moved bound below = absurd (cc)
left_falls false false next later_next upto later_upto going same moved bound below = omega (arith, moved, bound, below)

pub sends_number : (old new : Feeder) (lane later : PlainLane Item) → WentIn lane (Number old.next ∷ []) later → old.ended ≡ false → new.ended ≡ old.ended
    → new.next ≡ old.next + 1 → new.upto ≡ old.upto → old.next < old.upto → Sends feeder_account old new lane later Moved
sends_number old new lane later flows going same moved bound below =
    sends_item old new lane later (Number old.next) flows going (same ∙ going) (left_falls old.ended new.ended old.next new.next old.upto new.upto going same moved bound below)

pub takes_none : (job : Keeper) (lane later : PlainLane Item) (turn : Turn) → CameOut lane [] later → is_move turn ≡ false → TakesItems keeper_account job job lane later turn
takes_none job lane later turn flows e = record {
  items = [];
  flows = flows;
  did = λ window before ends. same_ends is_closing window job.ended before ends;
  cost = let none = still turn e in omega (arith, none);
  turned = tt;
}

pub takes_item : (old new : Keeper) (lane later : PlainLane Item) (item : Item) → CameOut lane (item ∷ []) later → old.ended ≡ false → new.ended ≡ is_closing item
    → TakesItems keeper_account old new lane later Moved
takes_item old new lane later item flows going now = record {
  items = item ∷ [];
  flows = flows;
  did = λ window before ends. ends_by window old.ended new.ended before item going now ends;
  cost = omega arith;
  turned = tt;
}
