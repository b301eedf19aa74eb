use Rattle.std.proofs.Common.{drop}
use Rattle.cdc_writer.proofs.Counted.{Counted}
use Rattle.cdc_writer.proofs.StatementSets.{told_events}
use Rattle.cdc_writer.proofs.different.told_length.Given as goal

abbrev pub invariant-loop-statement : goal.invariant-loop-statement
invariant-loop-statement l = Counted l.total (told_events l.statements) (told_events (drop l.statement-index l.statements))
