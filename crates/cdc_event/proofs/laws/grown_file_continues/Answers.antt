use Rattle.cdc_event.proofs.FileReading.{grown_file_continues as the_law}
use Rattle.cdc_event.proofs.laws.grown_file_continues.Goals as goal

pub returns : goal.returns
returns c = the_law
