use Rattle.cdc_model.proofs.Marks.{mark_is_greatest}
use Rattle.cdc_model.proofs.laws.mark_is_greatest.Goals as goal

pub returns : goal.returns
returns c = mark_is_greatest
