use Rattle.cdc_model.proofs.RestartPoints.{restart_point_is_start}
use Rattle.cdc_model.proofs.restart_laws.restart_point_is_start.Goals as goal

pub returns : goal.returns
returns c = restart_point_is_start
