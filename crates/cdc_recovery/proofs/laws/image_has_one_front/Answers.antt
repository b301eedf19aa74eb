use Rattle.cdc_recovery.proofs.OneCount.{image_has_one_front}
use Rattle.cdc_recovery.proofs.laws.image_has_one_front.Goals as goal

pub returns : goal.returns
returns c = image_has_one_front
