use Rattle.cdc_model.proofs.LogReading.{continued_log_keeps_entries}
use Rattle.cdc_model.proofs.grammar_laws.continued_log_keeps_entries.Goals as goal

pub returns : goal.returns
returns c = continued_log_keeps_entries c.file_is_read_in_one_way.ensures c.grown_file_continues.ensures
