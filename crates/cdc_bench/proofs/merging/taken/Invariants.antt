use Rattle.std.proofs.Common.{◌≡◌, length}
use Rattle.cdc_bench.proofs.merging.taken.Given as goal

abbrev pub invariant-loop : goal.invariant-loop
invariant-loop g l = length l.merger.nodes ≡ length l.fn.merger.nodes
