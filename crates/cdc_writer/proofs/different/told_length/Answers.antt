use Rattle.std.proofs.Common.{◌+◌, drop, get_or, refl, arith}
use Rattle.cdc_model.specs.Print.{statement_event}
use Rattle.cdc_writer.proofs.Bodies.{query_size}
use Rattle.cdc_writer.proofs.Counted.{counted_all, counted_is, counted_one, counted_none}
use Rattle.cdc_writer.proofs.StatementSets.{tell, nothing, told_events, told_first, told_none}
use Rattle.cdc_writer.proofs.different.told_length.Goals as goal

pub loop-statement-init : goal.loop-statement-init
loop-statement-init c = counted_all _ _ refl

pub loop-statement-preserved : goal.loop-statement-preserved
loop-statement-preserved c =
    let s = tell (get_or c.args.statements.now c.loop-statement.statement-index nothing) in
    let first = told_first c.args.statements.now c.loop-statement.statement-index nothing c.loop-statement-test.true in
    counted_one (statement_event s) (told_events (drop (c.loop-statement.statement-index + 1) c.args.statements.now)) (counted_is _ first c.loop-statement.invariant) _
    (omega (arith, query_size s.0 s.1, c.one_length.ensures, c.saturating_add-total.ensures))

pub returns : goal.returns
returns c = counted_none (counted_is _ (told_none c.args.statements.now c.loop-statement.statement-index c.loop-statement-test.false) c.loop-statement.invariant)
