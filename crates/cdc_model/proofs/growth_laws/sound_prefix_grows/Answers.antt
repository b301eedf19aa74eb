use Rattle.cdc_model.proofs.SoundGrowth.{sound_prefix_grows}
use Rattle.cdc_model.proofs.growth_laws.sound_prefix_grows.Goals as goal

pub returns : goal.returns
returns c = sound_prefix_grows c.file_is_read_in_one_way.ensures c.grown_file_continues.ensures
