use Rattle.std.proofs.Common.{refl}
use Rattle.cdc_session.proofs.Sent.{one_sent, one_wrote}
use Rattle.cdc_session.proofs.dumping.send.Goals as goal

pub returns-in-Ok-clause-told : goal.returns-in-Ok-clause-told
returns-in-Ok-clause-told g c told = record { ends = refl; written = one_sent c.args.sequence c.args.payload.now _ _ (c.in-Ok.ensures.ok told) }

pub returns-in-Err-clause-told : goal.returns-in-Err-clause-told
returns-in-Err-clause-told g c told =
    one_wrote c.args.sequence c.args.payload.now (g.L.Link.written c.args.link.now) (g.L.Link.written c.write_packet.new.link) (c.in-Err.ensures.err told)
