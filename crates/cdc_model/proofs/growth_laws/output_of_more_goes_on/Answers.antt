use Rattle.cdc_model.proofs.OutputGrowth.{output_of_more_goes_on}
use Rattle.cdc_model.proofs.growth_laws.output_of_more_goes_on.Goals as goal

pub returns : goal.returns
returns c = output_of_more_goes_on
