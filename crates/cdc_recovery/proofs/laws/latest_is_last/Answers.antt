use Rattle.cdc_recovery.proofs.LastPoint.{latest_is_last}
use Rattle.cdc_recovery.proofs.laws.latest_is_last.Goals as goal

pub returns : goal.returns
returns c = latest_is_last
