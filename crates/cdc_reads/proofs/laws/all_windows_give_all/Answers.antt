use Rattle.cdc_node_stage.specs.Job.{source_words}
use Rattle.cdc_reads.proofs.Passing.{all_windows_give_all}
use Rattle.cdc_reads.proofs.laws.all_windows_give_all.Goals as goal

pub returns : goal.returns
returns g c =
    all_windows_give_all (source_words g.S.Source.tells g.S.Source.held g.S.Source.sizes g.S.Source.lowest g.S.Source.faults)
    c.readings_stand_so.ensures c.all_read_gives_all.ensures
