use Rattle.cdc_model.proofs.EventLaws.{misplaced_event_ends}
use Rattle.cdc_model.proofs.reading_laws.misplaced_event_ends.Goals as goal

pub returns : goal.returns
returns c = misplaced_event_ends
