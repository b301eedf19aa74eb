use Rattle.std.proofs.Common.{sym}
use Rattle.cdc_writer.proofs.Marks.{shared_size, plain_size}
use Rattle.cdc_writer.proofs.mark.text_length.Goals as goal

pub returns-in-Shared : goal.returns-in-Shared
returns-in-Shared c = rw (c.in-Shared.is, c.bytes.ensures.value) (sym (shared_size c.in-Shared.timestamp c.in-Shared.gtrid))

pub returns-in-Plain : goal.returns-in-Plain
returns-in-Plain c = rw c.in-Plain.is (sym (plain_size c.in-Plain.timestamp c.in-Plain.node c.in-Plain.entry))
