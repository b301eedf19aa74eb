use Rattle.cdc_model.proofs.SoundGrowth.{low_water_mark_rises}
use Rattle.cdc_model.proofs.growth_laws.low_water_mark_rises.Goals as goal

pub returns : goal.returns
returns c = low_water_mark_rises
