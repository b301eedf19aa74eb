use Rattle.cdc_model.proofs.OwnBranches.{same_branches_same_order}
use Rattle.cdc_model.proofs.order_laws.same_branches_same_order.Goals as goal

pub returns : goal.returns
returns c = same_branches_same_order
