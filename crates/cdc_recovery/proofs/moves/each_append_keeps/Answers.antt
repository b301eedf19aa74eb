use Rattle.cdc_recovery.proofs.Changes.{each_append_keeps}
use Rattle.cdc_recovery.proofs.moves.each_append_keeps.Goals as goal

pub returns : goal.returns
returns c = each_append_keeps
