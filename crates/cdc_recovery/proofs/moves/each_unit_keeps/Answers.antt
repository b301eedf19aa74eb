use Rattle.cdc_recovery.proofs.Changes.{each_unit_keeps}
use Rattle.cdc_recovery.proofs.moves.each_unit_keeps.Goals as goal

pub returns : goal.returns
returns c = each_unit_keeps
