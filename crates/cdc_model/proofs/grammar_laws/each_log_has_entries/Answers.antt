use Rattle.cdc_model.proofs.LogReading.{each_log_has_entries}
use Rattle.cdc_model.proofs.grammar_laws.each_log_has_entries.Goals as goal

pub returns : goal.returns
returns c = each_log_has_entries c.each_file_is_read.ensures
