use Rattle.cdc_event.proofs.FileReading.{one_reading}
use Rattle.cdc_event.proofs.laws.file_is_read_in_one_way.Goals as goal

pub returns : goal.returns
returns c = one_reading
