use Rattle.cdc_model.proofs.FaultOrder.{sort_fault_is_first}
use Rattle.cdc_model.proofs.entry_laws.sort_fault_is_first.Goals as goal

pub returns : goal.returns
returns c = sort_fault_is_first
