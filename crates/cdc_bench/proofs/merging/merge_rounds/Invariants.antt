use Rattle.std.proofs.Common.{◌≡◌, length}
use Rattle.cdc_bench.proofs.merging.merge_rounds.Given as goal

abbrev pub invariant-loop-round : goal.invariant-loop-round
invariant-loop-round g l = length l.merger.nodes ≡ l.nodes
