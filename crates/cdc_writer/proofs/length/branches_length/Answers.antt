use Rattle.std.proofs.Common.{◌+◌, arith, drop}
use Rattle.cdc_model.specs.Print.{row_events, without_statement}
use Rattle.cdc_writer.specs.Statements.{branch_events}
use Rattle.cdc_writer.proofs.PrintedRows.{branches_first}
use Rattle.cdc_writer.proofs.Counted.{counted_is, counted_more}
use Rattle.cdc_writer.proofs.length.branches_length.Goals as goal

pub loop-branch-preserved : goal.loop-branch-preserved
loop-branch-preserved c =
    let rest = row_events c.args.names.now (without_statement (drop (c.loop-branch.branch-index + 1) c.args.branches.now)) in
    let first = branches_first c.args.names.now c.args.branches.now c.loop-branch.branch-index c.branch-item.result c.loop-branch-test.true c.branch-item.is in
    counted_more (branch_events c.args.names.now c.branch-item.result) rest (counted_is _ first c.loop-branch.invariant) _
    (omega (arith, c.branch_length.ensures, c.saturating_add-total.ensures))
