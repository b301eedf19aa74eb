use Rattle.cdc_records.proofs.OnePoint.{image_has_one_point}
use Rattle.cdc_records.proofs.checkpoint_laws.image_has_one_point.Goals as goal

pub returns : goal.returns
returns c = image_has_one_point
