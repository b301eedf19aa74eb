use Rattle.std.proofs.Common.{◌≡◌, length}
use Rattle.sorter_tests.proofs.beside.order.Given as goal

abbrev pub invariant-loop : goal.invariant-loop
invariant-loop g l = length l.merger.nodes ≡ 3
