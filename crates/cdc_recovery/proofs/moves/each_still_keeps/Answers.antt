use Rattle.cdc_recovery.proofs.Changes.{each_still_keeps}
use Rattle.cdc_recovery.proofs.moves.each_still_keeps.Goals as goal

pub returns : goal.returns
returns c = each_still_keeps
