use Rattle.cdc_model.proofs.FeedLaws.{feeds_merge_to_order}
use Rattle.cdc_model.proofs.order_laws.feeds_merge_to_order.Goals as goal

pub returns : goal.returns
returns c = feeds_merge_to_order
