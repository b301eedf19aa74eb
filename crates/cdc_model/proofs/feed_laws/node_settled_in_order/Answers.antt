use Rattle.cdc_model.proofs.NodeFeeds.{node_settled_in_order}
use Rattle.cdc_model.proofs.feed_laws.node_settled_in_order.Goals as goal

pub returns : goal.returns
returns c = node_settled_in_order
