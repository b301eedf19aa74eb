use Rattle.cdc_session.proofs.Sent.{flushed}
use Rattle.cdc_session.proofs.dumping.finish.Goals as goal

pub returns-clause-told : goal.returns-clause-told
returns-clause-told g c told = flushed c.flush.result (g.L.Link.written c.flush.new.link) (c.in_default.ensures.told told).out (c.flush.ensures.ok told) (c.flush.ensures.err told)
