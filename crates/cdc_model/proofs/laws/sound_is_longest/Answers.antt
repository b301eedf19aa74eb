use Rattle.cdc_model.proofs.SoundFront.{sound_is_longest}
use Rattle.cdc_model.proofs.laws.sound_is_longest.Goals as goal

pub returns : goal.returns
returns c = sound_is_longest
