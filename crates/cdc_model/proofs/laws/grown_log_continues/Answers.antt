use Rattle.cdc_model.proofs.LogPrefix.{grown_log_continues}
use Rattle.cdc_model.proofs.laws.grown_log_continues.Goals as goal

pub returns : goal.returns
returns c = grown_log_continues
