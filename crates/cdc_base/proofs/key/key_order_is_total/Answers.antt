use Rattle.cdc_base.proofs.KeyOrder.{key_order_total, same_key}
use Rattle.cdc_base.proofs.key.key_order_is_total.Goals as goal

pub returns-clause-total : goal.returns-clause-total
returns-clause-total c = key_order_total

pub returns-clause-exact : goal.returns-clause-exact
returns-clause-exact c = same_key
