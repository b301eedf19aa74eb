use Rattle.cdc_node_stage.specs.Job.{source_words}
use Rattle.cdc_reads.proofs.Passing.{too_large_is_oversized}
use Rattle.cdc_reads.proofs.laws.too_large_is_oversized.Goals as goal

pub returns : goal.returns
returns g c =
    too_large_is_oversized (source_words g.S.Source.tells g.S.Source.held g.S.Source.sizes g.S.Source.lowest g.S.Source.faults)
    c.readings_stand_so.ensures c.too_large_ends_the_pass.ensures
