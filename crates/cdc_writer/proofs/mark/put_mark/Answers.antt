use Rattle.std.proofs.Common.{arith}
use Rattle.cdc_writer.proofs.Marks.{mark_printable}
use Rattle.cdc_writer.proofs.mark.put_mark.Goals as goal

pub put_event-requires : goal.put_event-requires
put_event-requires c =
    rw (c.text_length-size.ensures, c.in_ok-text.ensures) (mark_printable c.args.at c.args.key.now (omega (arith, c.text_length-size.ensures, c.text_length-size.type_inv)) c.requires)
