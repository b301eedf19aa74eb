use Rattle.cdc_recovery.proofs.Changes.{each_trim_keeps}
use Rattle.cdc_recovery.proofs.moves.each_trim_keeps.Goals as goal

pub returns : goal.returns
returns c = each_trim_keeps
