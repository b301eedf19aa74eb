use Rattle.cdc_model.proofs.NodePoints.{resumed_latest_is_the_wholes}
use Rattle.cdc_model.proofs.restart_laws.resumed_latest_is_the_wholes.Goals as goal

pub returns : goal.returns
returns c = resumed_latest_is_the_wholes
