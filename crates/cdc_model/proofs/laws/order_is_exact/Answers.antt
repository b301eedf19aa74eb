use Rattle.cdc_model.proofs.GlobalOrder.{order_is_exact}
use Rattle.cdc_model.proofs.laws.order_is_exact.Goals as goal

pub returns : goal.returns
returns c = order_is_exact
