use Rattle.std.proofs.Common.{◌≡◌, length}
use Rattle.merger_tests.proofs.told.tell.Given as goal

abbrev pub invariant-loop : goal.invariant-loop
invariant-loop g l = length l.merger.nodes ≡ length l.fn.merger.nodes
