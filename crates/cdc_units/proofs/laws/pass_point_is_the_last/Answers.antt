use Rattle.cdc_units.proofs.Ending.{pass_point_is_the_last}
use Rattle.cdc_units.proofs.laws.pass_point_is_the_last.Goals as goal

pub returns : goal.returns
returns c = pass_point_is_the_last c.readings_are_feeds.ensures c.readings_settle_the_next.ensures c.units_are_settled.ensures c.points_behind_are_sound.ensures c.points_of_all_are_the_latest.ensures
