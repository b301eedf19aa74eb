use Rattle.cdc_sorter.proofs.Steps.{gave_is_a_front}
use Rattle.cdc_sorter.proofs.sorter.gave_is_a_front.Goals as goal

pub returns : goal.returns
returns c = gave_is_a_front
