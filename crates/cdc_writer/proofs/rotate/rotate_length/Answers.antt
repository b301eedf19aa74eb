use Rattle.std.proofs.Common.{arith}
use Rattle.cdc_writer.proofs.Runs.{rotate_exact}
use Rattle.cdc_writer.proofs.rotate.rotate_length.Goals as goal

pub returns-clause-size : goal.returns-clause-size
returns-clause-size c at = omega (arith, c.number_length.ensures.size, rotate_exact at c.args.number)
