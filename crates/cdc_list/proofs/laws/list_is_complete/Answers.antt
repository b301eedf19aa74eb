use Rattle.cdc_list.proofs.Complete.{list_is_complete}
use Rattle.cdc_list.proofs.laws.list_is_complete.Goals as goal

pub returns : goal.returns
returns c = list_is_complete c.image_has_one_front.ensures
