use Rattle.std.proofs.Common.{take}
use Rattle.cdc_writer.proofs.StatementSets.{KeepsFront}
use Rattle.cdc_writer.proofs.different.different.Given as goal

abbrev pub invariant-loop-branch : goal.invariant-loop-branch
invariant-loop-branch l = KeepsFront l.statements.keys (take l.branch-index l.branches)
