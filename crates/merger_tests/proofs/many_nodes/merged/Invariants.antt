use Rattle.std.proofs.Common.{◌≡◌, length}
use Rattle.merger_tests.proofs.many_nodes.merged.Given as goal

abbrev pub invariant-loop-node : goal.invariant-loop-node
invariant-loop-node g l = length l.merger.nodes ≡ 256
