use Rattle.cdc_waiting.proofs.Behind.{newest_stands_behind}
use Rattle.cdc_waiting.proofs.laws.newest_stands_behind.Goals as goal

pub returns : goal.returns
returns c = newest_stands_behind
