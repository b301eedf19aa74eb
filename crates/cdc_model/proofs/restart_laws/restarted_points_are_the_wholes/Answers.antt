use Rattle.cdc_model.proofs.RestartAgain.{restarted_points_are_the_wholes}
use Rattle.cdc_model.proofs.restart_laws.restarted_points_are_the_wholes.Goals as goal

pub returns : goal.returns
returns c = restarted_points_are_the_wholes
