use Rattle.std.proofs.Common.{◌+◌, take, arith}
use Rattle.cdc_writer.specs.Statements.{statement_events}
use Rattle.cdc_writer.proofs.Counted.{counted_all, counted_is, counted_more, counted_none}
use Rattle.cdc_writer.proofs.StatementsOnce.{left_events, left_start, left_first, left_end}
use Rattle.cdc_writer.proofs.length.statements_length.Goals as goal

pub loop-index-init : goal.loop-index-init
loop-index-init c = counted_all _ _ (left_start c.args.branches.now)

pub loop-index-preserved : goal.loop-index-preserved
loop-index-preserved c =
    let first = left_first c.args.branches.now c.loop-index.index c.index-branches-index.result c.loop-index-test.true c.index-branches-index.is in
    let here = rw c.split_at.ensures.front at c.statement_length.ensures in
    counted_more (statement_events (take c.loop-index.index c.args.branches.now) c.index-branches-index.result) (left_events c.args.branches.now (c.loop-index.index + 1)) (counted_is _ first c.loop-index.invariant) _
    (omega (arith, here, c.saturating_add-total.ensures))

pub returns : goal.returns
returns c = counted_none (counted_is _ (left_end c.args.branches.now c.loop-index.index c.loop-index-test.false) c.loop-index.invariant)
