use Rattle.cdc_model.proofs.FeedLaws.{seconds_are_the_firsts}
use Rattle.cdc_model.proofs.order_laws.seconds_are_the_firsts.Goals as goal

pub returns : goal.returns
returns c = seconds_are_the_firsts
