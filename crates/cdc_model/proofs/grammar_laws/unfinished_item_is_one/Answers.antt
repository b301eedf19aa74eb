use Rattle.cdc_model.proofs.GroupReading.{one_progress}
use Rattle.cdc_model.proofs.grammar_laws.unfinished_item_is_one.Goals as goal

pub returns : goal.returns
returns c = one_progress
