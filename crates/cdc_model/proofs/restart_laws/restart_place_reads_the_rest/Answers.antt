use Rattle.cdc_model.proofs.RestartRest.{restart_place_reads_the_rest}
use Rattle.cdc_model.proofs.restart_laws.restart_place_reads_the_rest.Goals as goal

pub returns : goal.returns
returns c = restart_place_reads_the_rest c.rest_is_read.ensures
