use Rattle.cdc_model.proofs.LogReading.{log_has_one_entry_list}
use Rattle.cdc_model.proofs.grammar_laws.log_has_one_entry_list.Goals as goal

pub returns : goal.returns
returns c = log_has_one_entry_list c.file_is_read_in_one_way.ensures
