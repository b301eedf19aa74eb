use Rattle.cdc_model.proofs.OutputGrowth.{settled_order_grows}
use Rattle.cdc_model.proofs.growth_laws.settled_order_grows.Goals as goal

pub returns : goal.returns
returns c = settled_order_grows
