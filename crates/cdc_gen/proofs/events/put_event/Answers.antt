use Rattle.std.proofs.lemmas.Result.{on_ok_weaker}
use Rattle.cdc_gen.proofs.Sizes.{appended, grown_by}
use Rattle.cdc_gen.proofs.events.put_event.Goals as goal

pub returns-clause-grown : goal.returns-clause-grown
returns-clause-grown c =
    on_ok_weaker _ (grown_by c.args.log.now c.write_event.new.into c.header_at-header.result c.args.body c.requires.body.short) c.write_event.ensures.ok

pub returns-clause-ok : goal.returns-clause-ok
returns-clause-ok c room =
    let placed = c.header_at-header.ensures.placed (rw c.len.ensures room) in
    on_ok_weaker _ (appended c.args.author.now.node c.args.author.now.seconds c.args.kind c.args.log.now c.write_event.new.into c.header_at-header.result c.args.body (rw c.len.ensures at placed)) c.write_event.ensures.ok
