use Rattle.cdc_recovery.proofs.Longer.{logs_keep_task}
use Rattle.cdc_recovery.proofs.laws.logs_keep_task.Goals as goal

pub returns : goal.returns
returns c = logs_keep_task
