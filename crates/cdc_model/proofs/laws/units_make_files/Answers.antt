use Rattle.cdc_model.proofs.Units.{units_make_files}
use Rattle.cdc_model.proofs.laws.units_make_files.Goals as goal

pub returns : goal.returns
returns c = units_make_files
