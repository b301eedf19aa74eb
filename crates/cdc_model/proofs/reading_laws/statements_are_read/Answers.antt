use Rattle.cdc_model.proofs.GrammarRows.{statements_are_read}
use Rattle.cdc_model.proofs.reading_laws.statements_are_read.Goals as goal

pub returns : goal.returns
returns c = statements_are_read
