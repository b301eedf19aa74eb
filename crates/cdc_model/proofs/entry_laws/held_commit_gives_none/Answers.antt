use Rattle.cdc_model.proofs.CommitLaws.{held_commit_gives_none}
use Rattle.cdc_model.proofs.entry_laws.held_commit_gives_none.Goals as goal

pub returns : goal.returns
returns c = held_commit_gives_none
