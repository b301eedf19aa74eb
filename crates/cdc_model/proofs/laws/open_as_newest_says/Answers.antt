use Rattle.cdc_model.proofs.OpenBranches.{open_as_newest_says}
use Rattle.cdc_model.proofs.laws.open_as_newest_says.Goals as goal

pub returns : goal.returns
returns c = open_as_newest_says
