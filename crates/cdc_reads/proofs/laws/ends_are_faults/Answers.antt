use Rattle.cdc_node_stage.specs.Job.{source_words}
use Rattle.cdc_reads.proofs.Faults.{ends_are_faults}
use Rattle.cdc_reads.proofs.laws.ends_are_faults.Goals as goal

pub returns : goal.returns
returns g c =
    ends_are_faults (source_words g.S.Source.tells g.S.Source.held g.S.Source.sizes g.S.Source.lowest g.S.Source.faults)
    c.log_has_one_entry_list.ensures c.restart_reads_the_rest.ensures c.restart_place_reads_the_rest.ensures
