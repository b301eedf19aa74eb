use Rattle.cdc_writer.specs.Statements.{all_statement_events}
use Rattle.cdc_writer.proofs.Counted.{Counted}
use Rattle.cdc_writer.proofs.StatementsOnce.{left_events}
use Rattle.cdc_writer.proofs.length.statements_length.Given as goal

abbrev pub invariant-loop-index : goal.invariant-loop-index
invariant-loop-index l = Counted l.total (all_statement_events l.branches) (left_events l.branches l.index)
