use Rattle.cdc_model.proofs.RestartPoints.{restart_point_stays}
use Rattle.cdc_model.proofs.restart_laws.restart_point_stays.Goals as goal

pub returns : goal.returns
returns c = restart_point_stays
