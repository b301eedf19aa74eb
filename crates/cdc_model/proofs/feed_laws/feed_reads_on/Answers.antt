use Rattle.cdc_model.proofs.NodeFeeds.{feed_reads_on}
use Rattle.cdc_model.proofs.feed_laws.feed_reads_on.Goals as goal

pub returns : goal.returns
returns c = feed_reads_on
