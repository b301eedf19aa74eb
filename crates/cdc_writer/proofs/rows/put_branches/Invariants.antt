use Rattle.std.proofs.Common.{drop}
use Rattle.cdc_model.specs.Print.{row_events, without_statement}
use Rattle.cdc_writer.proofs.Laid.{Left}
use Rattle.cdc_writer.proofs.rows.put_branches.Given as goal

abbrev pub invariant-loop-branch : goal.invariant-loop-branch
invariant-loop-branch l = Left l.fn.into l.into l.at l.next l.seconds (row_events l.names (without_statement l.branches)) (row_events l.names (without_statement (drop l.branch-index l.branches)))
