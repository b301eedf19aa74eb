use Rattle.cdc_recovery.proofs.Longer.{outputs_stay_kept}
use Rattle.cdc_recovery.proofs.laws.outputs_stay_kept.Goals as goal

pub returns : goal.returns
returns c = outputs_stay_kept
