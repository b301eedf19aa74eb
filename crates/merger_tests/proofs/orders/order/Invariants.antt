use Rattle.std.proofs.Common.{◌≡◌, length}
use Rattle.merger_tests.proofs.orders.order.Given as goal

abbrev pub invariant-loop : goal.invariant-loop
invariant-loop g l = length l.merger.nodes ≡ 3
