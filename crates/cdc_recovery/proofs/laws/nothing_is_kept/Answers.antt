use Rattle.cdc_recovery.proofs.Empty.{nothing_is_kept}
use Rattle.cdc_recovery.proofs.laws.nothing_is_kept.Goals as goal

pub returns : goal.returns
returns c = nothing_is_kept
