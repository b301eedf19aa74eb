use Rattle.cdc_merge_stage.proofs.Settling.{units_are_settled}
use Rattle.cdc_merge_stage.proofs.law.units_are_settled.Goals as goal

pub returns : goal.returns
returns c = units_are_settled
