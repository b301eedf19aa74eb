use Rattle.std.proofs.Common.{◌≡◌, length}
use Rattle.sorter_tests.proofs.beside.turn.Given as goal

abbrev pub invariant-loop : goal.invariant-loop
invariant-loop l = length l.merger.nodes ≡ length l.fn.merger.nodes
