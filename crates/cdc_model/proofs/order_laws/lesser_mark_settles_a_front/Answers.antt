use Rattle.cdc_model.proofs.OwnBranches.{lesser_mark_settles_a_front}
use Rattle.cdc_model.proofs.order_laws.lesser_mark_settles_a_front.Goals as goal

pub returns : goal.returns
returns c = lesser_mark_settles_a_front
