use Rattle.cdc_model.proofs.RestOfLog.{rest_of_log_is_read}
use Rattle.cdc_model.proofs.reading_laws.rest_of_log_is_read.Goals as goal

pub returns : goal.returns
returns c = rest_of_log_is_read c.rest_is_read.ensures
