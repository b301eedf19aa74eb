use Rattle.cdc_model.proofs.OneFileEnd.{one_file_ends}
use Rattle.cdc_model.proofs.growth_laws.one_file_ends.Goals as goal

pub returns : goal.returns
returns c = one_file_ends
