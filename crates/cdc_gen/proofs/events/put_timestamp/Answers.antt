use Rattle.std.proofs.Common.{arith}
use Rattle.cdc_gen.proofs.Sizes.{timestamp_placeable}
use Rattle.cdc_gen.proofs.events.put_timestamp.Goals as goal

pub put_event-requires-clause-body : goal.put_event-requires-clause-body
put_event-requires-clause-body c = timestamp_placeable c.args.class c.args.value (omega arith) (omega arith)
