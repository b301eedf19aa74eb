use Rattle.std.proofs.Common.{◌≡◌, ℕ, ◌<◌, true, false, length, get_or, IfSome, IfNone}
use Rattle.cdc_merge_stage.specs.Passing.{IsLeastBelow}
use Rattle.cdc_merge_stage.proofs.slots.lagging.Given as goal

abbrev pub invariant-loop-node : goal.invariant-loop-node
invariant-loop-node l = IfSome l.found (λ node. (node < length l.took) × (get_or l.took node true ≡ false) × IsLeastBelow l.took l.bounds l.node node) × IfNone l.found ((k : ℕ) → k < l.node → get_or l.took k true ≡ true)
