use Rattle.cdc_model.proofs.RestartPoints.{latest_never_falls}
use Rattle.cdc_model.proofs.restart_laws.latest_never_falls.Goals as goal

pub returns : goal.returns
returns c = latest_never_falls
