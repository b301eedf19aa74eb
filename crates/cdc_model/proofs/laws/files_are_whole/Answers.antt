use Rattle.cdc_model.proofs.Files.{files_are_whole}
use Rattle.cdc_model.proofs.laws.files_are_whole.Goals as goal

pub returns : goal.returns
returns c = files_are_whole
