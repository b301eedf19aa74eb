use Rattle.cdc_recovery.proofs.Changes.{each_commit_keeps}
use Rattle.cdc_recovery.proofs.moves.each_commit_keeps.Goals as goal

pub returns : goal.returns
returns c = each_commit_keeps
