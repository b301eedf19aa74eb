use Rattle.std.proofs.Common.{◌+◌, drop, get_or, refl, arith}
use Rattle.cdc_model.specs.Print.{statement_event}
use Rattle.cdc_writer.proofs.Laid.{left_all, left_is, left_more, left_none, event_within}
use Rattle.cdc_writer.proofs.StatementSets.{tell, nothing, told_events, told_first, told_none, told_short}
use Rattle.cdc_writer.proofs.transaction.put_statements.Goals as goal

pub loop-statement-init : goal.loop-statement-init
loop-statement-init c = (left_all _ _ _ _ _ refl, c.requires.short)

pub put_query-requires-clause-short : goal.put_query-requires-clause-short
put_query-requires-clause-short c = (told_short c.args.statements.now c.loop-statement.statement-index nothing c.loop-statement-test.true c.loop-statement.invariant.1).0

pub put_query-requires-clause-room : goal.put_query-requires-clause-room
put_query-requires-clause-room c =
    let first = told_first c.args.statements.now c.loop-statement.statement-index nothing c.loop-statement-test.true in
    let s = tell (get_or c.args.statements.now c.loop-statement.statement-index nothing) in
    let within = event_within c.args.into.now c.loop-statement.into c.args.at c.loop-statement.next c.args.seconds (told_events c.args.statements.now) (statement_event s) (told_events (drop (c.loop-statement.statement-index + 1) c.args.statements.now)) (left_is _ first c.loop-statement.invariant.0) in
    omega (arith, within, c.requires.room)

pub loop-statement-preserved : goal.loop-statement-preserved
loop-statement-preserved c =
    let first = told_first c.args.statements.now c.loop-statement.statement-index nothing c.loop-statement-test.true in
    let short = told_short c.args.statements.now c.loop-statement.statement-index nothing c.loop-statement-test.true c.loop-statement.invariant.1 in
    let s = tell (get_or c.args.statements.now c.loop-statement.statement-index nothing) in
    (left_more (statement_event s) (left_is _ first c.loop-statement.invariant.0) _ _ c.in_ok-next.ensures.ok c.in_ok-next.ensures.next, short.1)

pub returns-clause-next : goal.returns-clause-next
returns-clause-next c = (left_none (left_is _ (told_none c.args.statements.now c.loop-statement.statement-index c.loop-statement-test.false) c.loop-statement.invariant.0)).ends

pub returns-clause-ok : goal.returns-clause-ok
returns-clause-ok c = (left_none (left_is _ (told_none c.args.statements.now c.loop-statement.statement-index c.loop-statement-test.false) c.loop-statement.invariant.0)).bytes
