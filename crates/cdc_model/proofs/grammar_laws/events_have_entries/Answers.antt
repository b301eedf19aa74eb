use Rattle.cdc_model.proofs.GroupOutcome.{events_have_entries}
use Rattle.cdc_model.proofs.grammar_laws.events_have_entries.Goals as goal

pub returns : goal.returns
returns c = events_have_entries
