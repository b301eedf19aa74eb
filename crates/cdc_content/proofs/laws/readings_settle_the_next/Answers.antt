use Rattle.cdc_content.proofs.Behind.{readings_settle_the_next}
use Rattle.cdc_content.proofs.laws.readings_settle_the_next.Goals as goal

pub returns : goal.returns
returns c = readings_settle_the_next c.restart_place_reads_the_rest.ensures
