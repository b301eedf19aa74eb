use Rattle.cdc_query.specs.Text.{canonical_text}
use Rattle.cdc_gen.proofs.Sizes.{query_placeable}
use Rattle.cdc_gen.proofs.events.put_xa.Goals as goal

pub put_event-requires-clause-body : goal.put_event-requires-clause-body
put_event-requires-clause-body c = rw c.in_ok-body.ensures (query_placeable (canonical_text c.args.verb.now) c.requires.short)
