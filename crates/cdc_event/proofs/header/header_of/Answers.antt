use Rattle.std.proofs.Common.{arith}
use Rattle.cdc_event.specs.Event.{header_bytes}
use Rattle.cdc_event.proofs.HeaderBytes.{header_spelled}
use Rattle.cdc_event.proofs.header.header_of.Goals as goal

pub returns-clause-spelled : goal.returns-clause-spelled
unfolding header_bytes
returns-clause-spelled c = rw (c.number_4.ensures, c.number_4-2.ensures, c.number_4-3.ensures, c.number_4-4.ensures, c.number_2.ensures) (header_spelled c.args.bytes.now (record { below = λ i. omega (arith, c.type_inv.bytes i) }) (omega arith))
