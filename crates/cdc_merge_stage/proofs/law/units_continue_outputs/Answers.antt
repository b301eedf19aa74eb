use Rattle.cdc_merge_stage.proofs.Continuing.{units_continue_outputs}
use Rattle.cdc_merge_stage.proofs.law.units_continue_outputs.Goals as goal

pub returns : goal.returns
returns c = units_continue_outputs
