use Rattle.cdc_units.proofs.Standing.{pass_gives_planned_units}
use Rattle.cdc_units.proofs.laws.pass_gives_planned_units.Goals as goal

pub returns : goal.returns
returns c = pass_gives_planned_units c.readings_are_feeds.ensures c.readings_settle_the_next.ensures c.units_are_settled.ensures
