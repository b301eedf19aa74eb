use Rattle.cdc_gen.proofs.Sizes.{table_placeable}
use Rattle.cdc_gen.proofs.events.put_table_map.Goals as goal

pub put_event-requires-clause-body : goal.put_event-requires-clause-body
put_event-requires-clause-body c = rw c.table_map.ensures table_placeable
