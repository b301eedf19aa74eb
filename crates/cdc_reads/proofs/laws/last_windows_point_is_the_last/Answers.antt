use Rattle.cdc_node_stage.specs.Job.{source_words}
use Rattle.cdc_reads.proofs.Passing.{last_windows_point_is_the_last}
use Rattle.cdc_reads.proofs.laws.last_windows_point_is_the_last.Goals as goal

pub returns : goal.returns
returns g c =
    last_windows_point_is_the_last (source_words g.S.Source.tells g.S.Source.held g.S.Source.sizes g.S.Source.lowest g.S.Source.faults)
    c.readings_stand_so.ensures c.all_read_gives_all.ensures c.restart_point_is_start.ensures c.pass_point_is_the_last.ensures
