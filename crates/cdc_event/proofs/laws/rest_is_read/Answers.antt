use Rattle.cdc_event.proofs.FileReading.{rest_is_read as the_law}
use Rattle.cdc_event.proofs.laws.rest_is_read.Goals as goal

pub returns : goal.returns
returns c = the_law
