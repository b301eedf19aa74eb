use Rattle.cdc_model.proofs.GroupReading.{fronts_fit}
use Rattle.cdc_model.proofs.grammar_laws.fronts_fit.Goals as goal

pub returns : goal.returns
returns c = fronts_fit
