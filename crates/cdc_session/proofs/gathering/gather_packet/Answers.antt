use Rattle.std.proofs.Common.{◌++◌}
use Rattle.cdc_session.proofs.Sent.{gathers_then, breaks_first}
use Rattle.cdc_session.proofs.gathering.gather_packet.Goals as goal

pub returns-in-Err-clause-told : goal.returns-in-Err-clause-told
returns-in-Err-clause-told g c told = breaks_first (c.args.first.now ++ c.args.rest.now) (c.in-Err.ensures.told told)

pub returns-in-Ok-clause-told : goal.returns-in-Ok-clause-told
returns-in-Ok-clause-told g c told = gathers_then c.gather_both.result (c.args.first.now ++ c.args.rest.now) (g.L.Link.written c.gather_both.new.link) c.gather_both.new.held (c.in-Ok.ensures.told told) (c.gather_both.ensures.told told)
