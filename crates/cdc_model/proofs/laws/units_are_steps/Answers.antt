use Rattle.cdc_model.proofs.Units.{units_are_steps}
use Rattle.cdc_model.proofs.laws.units_are_steps.Goals as goal

pub returns : goal.returns
returns c = units_are_steps
