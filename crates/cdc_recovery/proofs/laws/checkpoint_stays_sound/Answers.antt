use Rattle.cdc_recovery.proofs.Longer.{checkpoint_stays_sound}
use Rattle.cdc_recovery.proofs.laws.checkpoint_stays_sound.Goals as goal

pub returns : goal.returns
returns c = checkpoint_stays_sound
