use Rattle.cdc_records.proofs.OnePoint.{bytes_are_one_point}
use Rattle.cdc_records.proofs.checkpoint_laws.bytes_are_one_point.Goals as goal

pub returns : goal.returns
returns c = bytes_are_one_point
