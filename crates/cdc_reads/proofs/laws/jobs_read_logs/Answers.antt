use Rattle.cdc_node_stage.specs.Job.{source_words}
use Rattle.cdc_reads.proofs.Passing.{jobs_read_logs}
use Rattle.cdc_reads.proofs.laws.jobs_read_logs.Goals as goal

pub returns : goal.returns
returns g c =
    jobs_read_logs (source_words g.S.Source.tells g.S.Source.held g.S.Source.sizes g.S.Source.lowest g.S.Source.faults)
    c.readings_stand_so.ensures c.pass_gives_planned_units.ensures c.restart_point_is_start.ensures c.pass_points_are_sound.ensures
