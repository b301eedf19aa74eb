use Rattle.cdc_content.proofs.Behind.{readings_of_all_settle_all}
use Rattle.cdc_content.proofs.laws.readings_of_all_settle_all.Goals as goal

pub returns : goal.returns
returns c = readings_of_all_settle_all c.restart_place_reads_the_rest.ensures
