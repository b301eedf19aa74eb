use Rattle.cdc_model.proofs.EventLaws.{reading_begins}
use Rattle.cdc_model.proofs.reading_laws.reading_begins.Goals as goal

pub returns : goal.returns
returns c = reading_begins
