use Rattle.cdc_model.proofs.RestOfLog.{one_rest}
use Rattle.cdc_model.proofs.reading_laws.one_rest.Goals as goal

pub returns : goal.returns
returns c = one_rest c.file_is_read_in_one_way.ensures
