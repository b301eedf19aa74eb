use Rattle.cdc_event.proofs.Correspondence.{written_is_read}
use Rattle.cdc_event.proofs.laws.what_is_written_is_read.Goals as goal

pub returns : goal.returns
returns c = written_is_read
