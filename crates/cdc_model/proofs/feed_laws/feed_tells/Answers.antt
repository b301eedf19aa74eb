use Rattle.cdc_model.proofs.NodeFeeds.{feed_tells}
use Rattle.cdc_model.proofs.feed_laws.feed_tells.Goals as goal

pub returns : goal.returns
returns c = feed_tells
