use Rattle.cdc_print.proofs.Complete.{nodes_have_logs}
use Rattle.cdc_print.proofs.laws.nodes_have_logs.Goals as goal

pub returns : goal.returns
returns c = nodes_have_logs c.each_log_has_entries.ensures
