use Rattle.cdc_model.proofs.Marks.{node_mark_is_least}
use Rattle.cdc_model.proofs.laws.node_mark_is_least.Goals as goal

pub returns : goal.returns
returns c = node_mark_is_least
