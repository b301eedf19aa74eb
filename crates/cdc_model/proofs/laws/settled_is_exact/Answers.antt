use Rattle.cdc_model.proofs.OrderCut.{settled_is_exact}
use Rattle.cdc_model.proofs.laws.settled_is_exact.Goals as goal

pub returns : goal.returns
returns c = settled_is_exact
