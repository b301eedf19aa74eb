use Rattle.cdc_recovery.proofs.OneCount.{count_is_one}
use Rattle.cdc_recovery.proofs.laws.count_is_one.Goals as goal

pub returns : goal.returns
returns c = count_is_one
