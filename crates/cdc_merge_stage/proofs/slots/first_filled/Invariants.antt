use Rattle.std.proofs.Common.{◌≡◌, ℕ, ◌<◌, false, get_or, None, is_some}
use Rattle.cdc_merge_stage.proofs.slots.first_filled.Given as goal

abbrev pub invariant-loop-out : goal.invariant-loop-out
invariant-loop-out l = (k : ℕ) → k < l.out → is_some (get_or l.slots k None) ≡ false
