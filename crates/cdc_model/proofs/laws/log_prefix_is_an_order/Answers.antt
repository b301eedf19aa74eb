use Rattle.cdc_model.proofs.LogPrefix.{log_prefix_is_an_order}
use Rattle.cdc_model.proofs.laws.log_prefix_is_an_order.Goals as goal

pub returns : goal.returns
returns c = log_prefix_is_an_order
