use Rattle.cdc_units.proofs.Ending.{too_large_ends_the_pass}
use Rattle.cdc_units.proofs.laws.too_large_ends_the_pass.Goals as goal

pub returns : goal.returns
returns c = too_large_ends_the_pass c.readings_are_feeds.ensures c.readings_settle_the_next.ensures c.units_are_settled.ensures
