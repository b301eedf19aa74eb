use Rattle.std.proofs.Common.{codes, lit≤, arith}
use Rattle.cdc_gen.proofs.Sizes.{query_placeable, xid_placeable}
use Rattle.cdc_gen.proofs.writing.put_local.Goals as goal

pub put_event-requires-clause-body : goal.put_event-requires-clause-body
put_event-requires-clause-body c = rw c.begin.ensures (query_placeable (codes "BEGIN") (lit≤ tt))

pub put_event-requires-2-clause-body : goal.put_event-requires-2-clause-body
put_event-requires-2-clause-body c = xid_placeable c.from.result (omega arith)
