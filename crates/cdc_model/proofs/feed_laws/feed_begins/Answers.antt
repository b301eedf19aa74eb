use Rattle.cdc_model.proofs.NodeFeeds.{feed_begins}
use Rattle.cdc_model.proofs.feed_laws.feed_begins.Goals as goal

pub returns : goal.returns
returns c = feed_begins
