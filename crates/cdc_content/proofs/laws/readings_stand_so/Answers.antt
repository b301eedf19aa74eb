use Rattle.cdc_content.proofs.Standing.{readings_stand_so}
use Rattle.cdc_content.proofs.laws.readings_stand_so.Goals as goal

pub returns : goal.returns
returns c = readings_stand_so
