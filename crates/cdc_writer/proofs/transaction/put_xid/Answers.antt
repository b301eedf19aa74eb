use Rattle.std.proofs.Common.{arith}
use Rattle.cdc_writer.proofs.Queries.{xid_printable}
use Rattle.cdc_writer.proofs.transaction.put_xid.Goals as goal

pub put_event-requires : goal.put_event-requires
put_event-requires c = xid_printable c.args.at c.args.number (omega arith) c.requires
