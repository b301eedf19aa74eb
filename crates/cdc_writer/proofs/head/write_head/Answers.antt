use Rattle.cdc_event.specs.Number.{low_first}
use Rattle.cdc_event.specs.Event.{header_bytes, body_bytes}
use Rattle.cdc_model.specs.Output.{file_head, post_headers}
use Rattle.cdc_writer.proofs.head.write_head.Goals as goal

pub returns-clause-ok : goal.returns-clause-ok
unfolding file_head post_headers header_bytes body_bytes low_first
returns-clause-ok c = c.push.ensures.ok
