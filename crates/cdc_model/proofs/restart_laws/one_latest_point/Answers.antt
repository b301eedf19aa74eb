use Rattle.cdc_model.proofs.RestartPoints.{one_latest_point}
use Rattle.cdc_model.proofs.restart_laws.one_latest_point.Goals as goal

pub returns : goal.returns
returns c = one_latest_point
