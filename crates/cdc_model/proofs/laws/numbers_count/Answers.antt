use Rattle.cdc_model.proofs.Marks.{numbers_count}
use Rattle.cdc_model.proofs.laws.numbers_count.Goals as goal

pub returns : goal.returns
returns c = numbers_count
