use Rattle.cdc_event.proofs.FileExists.{each_is_read}
use Rattle.cdc_event.proofs.laws.each_file_is_read.Goals as goal

pub returns : goal.returns
returns c = each_is_read
