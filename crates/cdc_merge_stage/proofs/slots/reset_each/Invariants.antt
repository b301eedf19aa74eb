use Rattle.std.proofs.Common.{◌≡◌, ℕ, ◌<◌, false, length, get_or}
use Rattle.cdc_merge_stage.proofs.slots.reset_each.Given as goal

abbrev pub invariant-loop-node : goal.invariant-loop-node
invariant-loop-node l = (length l.took ≡ length l.fn.took) × ((k : ℕ) → k < l.node → get_or l.took k false ≡ false)
