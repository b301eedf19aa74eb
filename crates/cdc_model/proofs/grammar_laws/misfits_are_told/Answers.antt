use Rattle.cdc_model.proofs.GroupReading.{misfits_are_told}
use Rattle.cdc_model.proofs.grammar_laws.misfits_are_told.Goals as goal

pub returns : goal.returns
returns c = misfits_are_told
