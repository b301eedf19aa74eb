use Rattle.cdc_model.proofs.OwnBranches.{settled_branches_go_on}
use Rattle.cdc_model.proofs.order_laws.settled_branches_go_on.Goals as goal

pub returns : goal.returns
returns c = settled_branches_go_on
