use Rattle.std.proofs.Common.{arith}
use Rattle.cdc_gen.proofs.Sizes.{start_length}
use Rattle.cdc_gen.proofs.writing.put_start.Goals as goal

pub put_xa-requires-clause-short : goal.put_xa-requires-clause-short
put_xa-requires-clause-short c = rw c.xid_of.ensures (omega (arith, start_length c.args.number c.args.node))
