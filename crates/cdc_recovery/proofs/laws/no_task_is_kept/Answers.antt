use Rattle.cdc_recovery.proofs.Empty.{no_task_is_kept}
use Rattle.cdc_recovery.proofs.laws.no_task_is_kept.Goals as goal

pub returns : goal.returns
returns c = no_task_is_kept
