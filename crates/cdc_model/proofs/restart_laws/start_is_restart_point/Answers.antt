use Rattle.cdc_model.proofs.RestartPoints.{start_is_restart_point}
use Rattle.cdc_model.proofs.restart_laws.start_is_restart_point.Goals as goal

pub returns : goal.returns
returns c = start_is_restart_point
