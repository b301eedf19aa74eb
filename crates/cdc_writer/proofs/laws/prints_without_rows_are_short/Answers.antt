use Rattle.cdc_writer.proofs.Short.{short_print}
use Rattle.cdc_writer.proofs.laws.prints_without_rows_are_short.Goals as goal

pub returns : goal.returns
returns c = short_print
