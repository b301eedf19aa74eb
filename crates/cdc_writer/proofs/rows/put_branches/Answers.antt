use Rattle.std.proofs.Common.{◌+◌, ◌≤◌, drop, arith}
use Rattle.cdc_model.specs.Print.{row_events, without_statement}
use Rattle.cdc_writer.specs.Events.{events_length}
use Rattle.cdc_writer.specs.Statements.{branch_events}
use Rattle.cdc_writer.proofs.Laid.{left_is, left_many, some_within}
use Rattle.cdc_writer.proofs.PrintedRows.{branches_first}
use Rattle.cdc_writer.proofs.rows.put_branches.Goals as goal

pub put_branch-requires : goal.put_branch-requires
put_branch-requires c =
    let first = branches_first c.args.names.now c.args.branches.now c.loop-branch.branch-index c.branch-item.result c.loop-branch-test.true c.branch-item.is in
    let within : c.loop-branch.next + events_length (branch_events c.args.names.now c.branch-item.result) ≤ c.args.at + events_length (row_events c.args.names.now (without_statement c.args.branches.now)) = some_within _ _ _ _ _ _ (branch_events c.args.names.now c.branch-item.result) (row_events c.args.names.now (without_statement (drop (c.loop-branch.branch-index + 1) c.args.branches.now))) (left_is _ first c.loop-branch.invariant) in
    omega (arith, within, c.requires)

pub loop-branch-preserved : goal.loop-branch-preserved
loop-branch-preserved c =
    let first = branches_first c.args.names.now c.args.branches.now c.loop-branch.branch-index c.branch-item.result c.loop-branch-test.true c.branch-item.is in
    left_many _ (left_is _ first c.loop-branch.invariant) _ _ c.in_ok-next.ensures.ok c.in_ok-next.ensures.next
