use Rattle.cdc_model.proofs.NodeFeeds.{feed_gives}
use Rattle.cdc_model.proofs.feed_laws.feed_gives.Goals as goal

pub returns : goal.returns
returns c = feed_gives
