use Rattle.cdc_model.proofs.FeedLaws.{settled_order_is_exact}
use Rattle.cdc_model.proofs.order_laws.settled_order_is_exact.Goals as goal

pub returns : goal.returns
returns c = settled_order_is_exact
