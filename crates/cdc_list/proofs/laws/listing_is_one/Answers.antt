use Rattle.cdc_list.proofs.Complete.{listing_is_one}
use Rattle.cdc_list.proofs.laws.listing_is_one.Goals as goal

pub returns : goal.returns
returns c = listing_is_one c.image_has_one_front.ensures
