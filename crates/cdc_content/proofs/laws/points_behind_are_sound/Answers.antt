use Rattle.cdc_content.proofs.Points.{points_behind_are_sound}
use Rattle.cdc_content.proofs.laws.points_behind_are_sound.Goals as goal

pub returns : goal.returns
returns c = points_behind_are_sound c.restart_place_reads_the_rest.ensures
