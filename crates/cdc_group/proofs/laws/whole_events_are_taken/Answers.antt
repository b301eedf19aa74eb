use Rattle.cdc_group.proofs.Whole.{whole_taken}
use Rattle.cdc_group.proofs.laws.whole_events_are_taken.Goals as goal

pub returns : goal.returns
returns c = whole_taken
