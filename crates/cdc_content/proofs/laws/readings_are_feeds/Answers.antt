use Rattle.cdc_content.proofs.Behind.{readings_are_feeds}
use Rattle.cdc_content.proofs.laws.readings_are_feeds.Goals as goal

pub returns : goal.returns
returns c = readings_are_feeds
