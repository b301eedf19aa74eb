use Rattle.cdc_print.proofs.Complete.{one_list_of_logs}
use Rattle.cdc_print.proofs.laws.one_list_of_logs.Goals as goal

pub returns : goal.returns
returns c = one_list_of_logs c.log_has_one_entry_list.ensures
