use Rattle.std.proofs.Common.{length}
use Rattle.cdc_config.proofs.Filed.{AreFiled}
use Rattle.cdc_config.proofs.filing.names_from.Given as goal

abbrev pub invariant-loop-rule : goal.invariant-loop-rule
invariant-loop-rule l = AreFiled l.fn.rules l.rest l.names

abbrev pub decreases-loop-rule : goal.decreases-loop-rule
decreases-loop-rule l = length l.rest
