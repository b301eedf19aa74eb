use Rattle.cdc_model.proofs.Marks.{mark_is_least}
use Rattle.cdc_model.proofs.laws.mark_is_least.Goals as goal

pub returns : goal.returns
returns c = mark_is_least
