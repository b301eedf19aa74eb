use Rattle.cdc_gen.proofs.Sizes.{row_placeable}
use Rattle.cdc_gen.proofs.events.put_row.Goals as goal

pub put_event-requires-clause-body : goal.put_event-requires-clause-body
put_event-requires-clause-body c = rw c.in_ok-body.ensures (row_placeable c.args.number)
