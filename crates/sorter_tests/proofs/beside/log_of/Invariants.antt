use Rattle.std.proofs.Common.{◌<◌}
use Rattle.sorter_tests.proofs.beside.log_of.Given as goal

abbrev pub invariant-loop-index : goal.invariant-loop-index
invariant-loop-index l = l.opened < 4
