use Rattle.cdc_event.proofs.Correspondence.{no_front}
use Rattle.cdc_event.proofs.laws.no_event_begins_another.Goals as goal

pub returns : goal.returns
returns c = no_front
