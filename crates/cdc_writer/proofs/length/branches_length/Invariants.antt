use Rattle.std.proofs.Common.{drop}
use Rattle.cdc_model.specs.Print.{row_events, without_statement}
use Rattle.cdc_writer.proofs.Counted.{Counted}
use Rattle.cdc_writer.proofs.length.branches_length.Given as goal

abbrev pub invariant-loop-branch : goal.invariant-loop-branch
invariant-loop-branch l = Counted l.total (row_events l.names (without_statement l.branches)) (row_events l.names (without_statement (drop l.branch-index l.branches)))
