use Rattle.cdc_model.proofs.GroupReading.{one_reading}
use Rattle.cdc_model.proofs.grammar_laws.entries_are_read_in_one_way.Goals as goal

pub returns : goal.returns
returns c = one_reading
