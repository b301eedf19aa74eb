use Rattle.cdc_kept.proofs.Openings.{kept_is_opened}
use Rattle.cdc_kept.proofs.laws.kept_disks_are_opened.Goals as goal

pub returns : goal.returns
returns c = kept_is_opened c.image_has_one_front.ensures c.image_has_one_point.ensures
