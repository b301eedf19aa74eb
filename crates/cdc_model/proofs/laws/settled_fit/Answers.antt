use Rattle.cdc_model.proofs.OrderCut.{settled_fit}
use Rattle.cdc_model.proofs.laws.settled_fit.Goals as goal

pub returns : goal.returns
returns c = settled_fit
