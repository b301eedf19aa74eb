use Rattle.std.proofs.Common.{◌≡◌, length}
use Rattle.cdc_bench.proofs.merging.give_round.Given as goal

abbrev pub invariant-loop-index : goal.invariant-loop-index
invariant-loop-index l = length l.merger.nodes ≡ length l.fn.merger.nodes
