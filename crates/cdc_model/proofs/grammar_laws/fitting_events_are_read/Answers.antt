use Rattle.cdc_model.proofs.GroupReading.{fitting_is_read}
use Rattle.cdc_model.proofs.grammar_laws.fitting_events_are_read.Goals as goal

pub returns : goal.returns
returns c = fitting_is_read
