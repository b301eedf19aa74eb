use Rattle.cdc_model.proofs.NodePoints.{restart_points_stay}
use Rattle.cdc_model.proofs.restart_laws.restart_points_stay.Goals as goal

pub returns : goal.returns
returns c = restart_points_stay
