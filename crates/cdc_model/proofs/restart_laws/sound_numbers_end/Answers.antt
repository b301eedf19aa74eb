use Rattle.cdc_model.proofs.RestartPoints.{sound_numbers_end}
use Rattle.cdc_model.proofs.restart_laws.sound_numbers_end.Goals as goal

pub returns : goal.returns
returns c = sound_numbers_end
