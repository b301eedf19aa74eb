use Rattle.cdc_content.proofs.Points.{points_of_all_are_latest}
use Rattle.cdc_content.proofs.laws.points_of_all_are_the_latest.Goals as goal

pub returns : goal.returns
returns c = points_of_all_are_latest c.restart_place_reads_the_rest.ensures
