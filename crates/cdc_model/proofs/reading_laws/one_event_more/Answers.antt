use Rattle.cdc_model.proofs.EventLaws.{one_event_more}
use Rattle.cdc_model.proofs.reading_laws.one_event_more.Goals as goal

pub returns : goal.returns
returns c = one_event_more
