use Rattle.cdc_writer.proofs.Runs.{rotate_printable}
use Rattle.cdc_writer.proofs.rotate.put_rotate.Goals as goal

pub put_event-requires : goal.put_event-requires
put_event-requires c = rotate_printable c.args.at c.args.number c.in_ok-name_of.field-0 c.requires c.ranges.number.fits c.in_ok-name_of.ensures
