use Rattle.std.proofs.Common.{drop}
use Rattle.std.specs.List.{AllByRecursion}
use Rattle.cdc_writer.specs.Statements.{IsShort, told}
use Rattle.cdc_writer.proofs.Laid.{Left}
use Rattle.cdc_writer.proofs.StatementSets.{told_events}
use Rattle.cdc_writer.proofs.transaction.put_statements.Given as goal

abbrev pub invariant-loop-statement : goal.invariant-loop-statement
invariant-loop-statement l =
    Left l.fn.into l.into l.at l.next l.seconds (told_events l.statements) (told_events (drop l.statement-index l.statements))
    × AllByRecursion IsShort (told (drop l.statement-index l.statements))
