use Rattle.cdc_model.proofs.XidOrder.{open_branches_ascend}
use Rattle.cdc_model.proofs.entry_laws.open_branches_ascend.Goals as goal

pub returns : goal.returns
returns c = open_branches_ascend
