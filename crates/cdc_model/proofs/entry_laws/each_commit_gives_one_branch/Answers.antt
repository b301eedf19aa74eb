use Rattle.cdc_model.proofs.CommitLaws.{each_commit_gives_one_branch}
use Rattle.cdc_model.proofs.entry_laws.each_commit_gives_one_branch.Goals as goal

pub returns : goal.returns
returns c = each_commit_gives_one_branch
