use Rattle.cdc_model.proofs.Files.{one_more_is_one_step}
use Rattle.cdc_model.proofs.laws.one_more_is_one_step.Goals as goal

pub returns : goal.returns
returns c = one_more_is_one_step
