use Rattle.cdc_model.proofs.OutputGrowth.{output_only_grows}
use Rattle.cdc_model.proofs.growth_laws.output_grows.Goals as goal

pub returns : goal.returns
returns c = output_only_grows
