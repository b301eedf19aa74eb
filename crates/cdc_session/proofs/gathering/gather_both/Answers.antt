use Rattle.cdc_session.proofs.Sent.{gathers_then, breaks_first}
use Rattle.cdc_session.proofs.gathering.gather_both.Goals as goal

pub returns-in-Err-clause-told : goal.returns-in-Err-clause-told
returns-in-Err-clause-told g c told = breaks_first c.args.more.now (c.in-Err.ensures.told told)

pub returns-in-Ok-clause-told : goal.returns-in-Ok-clause-told
returns-in-Ok-clause-told g c told = gathers_then c.gather-in-Ok.result c.args.more.now (g.L.Link.written c.gather-in-Ok.new.link) c.gather-in-Ok.new.held (c.in-Ok.ensures.told told) (c.gather-in-Ok.ensures.told told)
