use Rattle.cdc_model.proofs.Openings.{open_is_newest_prepare}
use Rattle.cdc_model.proofs.entry_laws.open_is_newest_prepare.Goals as goal

pub returns : goal.returns
returns c = open_is_newest_prepare
