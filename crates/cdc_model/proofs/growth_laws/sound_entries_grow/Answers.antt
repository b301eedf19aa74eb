use Rattle.cdc_model.proofs.SoundGrowth.{sound_entries_grow}
use Rattle.cdc_model.proofs.growth_laws.sound_entries_grow.Goals as goal

pub returns : goal.returns
returns c = sound_entries_grow
