use Rattle.std.proofs.Common.{◌≡◌, ℕ, ◌<◌, length, get_or, None}
use Rattle.cdc_merge_stage.proofs.slots.clear_each.Given as goal

abbrev pub invariant-loop-out : goal.invariant-loop-out
invariant-loop-out l = (length l.slots ≡ length l.fn.slots) × ((k : ℕ) → k < l.out → get_or l.slots k None ≡ None)
