use Rattle.cdc_model.proofs.RestartOrder.{restart_gives_the_rest}
use Rattle.cdc_model.proofs.restart_laws.restart_gives_the_rest.Goals as goal

pub returns : goal.returns
returns c = restart_gives_the_rest
