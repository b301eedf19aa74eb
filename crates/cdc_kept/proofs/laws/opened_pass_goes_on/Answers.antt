use Rattle.cdc_kept.proofs.GoingOn.{opened_goes_on}
use Rattle.cdc_kept.proofs.laws.opened_pass_goes_on.Goals as goal

pub returns : goal.returns
returns c = opened_goes_on c.start_is_restart_point.ensures c.image_has_one_point.ensures
