use Rattle.cdc_model.proofs.OutputGrowth.{least_mark_rises}
use Rattle.cdc_model.proofs.growth_laws.least_mark_rises.Goals as goal

pub returns : goal.returns
returns c = least_mark_rises
