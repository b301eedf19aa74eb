use Rattle.cdc_units.proofs.Ending.{pass_points_are_sound}
use Rattle.cdc_units.proofs.laws.pass_points_are_sound.Goals as goal

pub returns : goal.returns
returns c = pass_points_are_sound c.readings_are_feeds.ensures c.readings_settle_the_next.ensures c.units_are_settled.ensures c.points_behind_are_sound.ensures
