use Rattle.cdc_recovery.proofs.Changes.{each_opening_keeps}
use Rattle.cdc_recovery.proofs.moves.each_opening_keeps.Goals as goal

pub returns : goal.returns
returns c = each_opening_keeps
