use Rattle.std.proofs.Common.{arith}
use Rattle.cdc_writer.proofs.Marks.{mark_size}
use Rattle.cdc_writer.proofs.mark.mark_length.Goals as goal

pub returns-clause-length : goal.returns-clause-length
returns-clause-length c = omega (arith, mark_size c.args.key.now, c.text_length.ensures)
