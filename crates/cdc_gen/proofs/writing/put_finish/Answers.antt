use Rattle.std.proofs.Common.{arith}
use Rattle.std.proofs.lemmas.Result.{on_ok_weaker}
use Rattle.cdc_gen.proofs.Groups.{finished}
use Rattle.cdc_gen.proofs.Sizes.{end_length, prepare_placeable}
use Rattle.cdc_gen.proofs.writing.put_finish.Goals as goal

pub put_xa-requires-clause-short : goal.put_xa-requires-clause-short
put_xa-requires-clause-short c = rw c.xid_of.ensures (omega (arith, end_length c.args.number c.args.node))

pub put_event-requires-clause-body : goal.put_event-requires-clause-body
put_event-requires-clause-body c = rw c.xid_of-2.ensures (prepare_placeable c.args.number c.args.node)

pub returns : goal.returns
returns c room =
    let first = c.in_ok-put_xa.ensures.ok (omega arith) in
    let grown = c.in_ok-put_xa.ensures.grown in
    let last = c.put_event.ensures.ok (omega (arith, grown)) in
    on_ok_weaker _ (finished c.args.number c.args.node c.args.log.now c.put_xa.new.log c.put_event.new.log c.xid_of.result c.xid_of-2.result c.xid_of.ensures c.xid_of-2.ensures first) last
