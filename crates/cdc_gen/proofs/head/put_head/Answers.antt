use Rattle.cdc_event.specs.Number.{low_first}
use Rattle.cdc_event.specs.Event.{header_bytes, body_bytes}
use Rattle.cdc_gen.specs.Head.{log_head}
use Rattle.cdc_gen.proofs.head.put_head.Goals as goal

pub returns : goal.returns
unfolding log_head header_bytes body_bytes low_first
returns c = c.push.ensures.ok
