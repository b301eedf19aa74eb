use Rattle.cdc_model.proofs.FeedLaws.{later_feeds_go_on}
use Rattle.cdc_model.proofs.order_laws.later_feeds_go_on.Goals as goal

pub returns : goal.returns
returns c = later_feeds_go_on
