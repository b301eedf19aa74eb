use Rattle.cdc_model.proofs.FaultOrder.{log_fault_is_first}
use Rattle.cdc_model.proofs.entry_laws.log_fault_is_first.Goals as goal

pub returns : goal.returns
returns c = log_fault_is_first
