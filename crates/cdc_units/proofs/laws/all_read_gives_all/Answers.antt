use Rattle.cdc_units.proofs.Ending.{all_read_gives_all}
use Rattle.cdc_units.proofs.laws.all_read_gives_all.Goals as goal

pub returns : goal.returns
returns c = all_read_gives_all c.readings_are_feeds.ensures c.readings_of_all_settle_all.ensures c.units_are_settled.ensures
