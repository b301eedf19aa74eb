use Rattle.cdc_config.proofs.Whole.{judged_accepted, judged_plan, judged_refused, judged_usage}
use Rattle.cdc_config.proofs.judging.plan_of.Goals as goal

pub returns-clause-plan : goal.returns-clause-plan
returns-clause-plan c = judged_plan c.judged.result c.args.config.now c.judged.ensures

pub returns-clause-accepted : goal.returns-clause-accepted
returns-clause-accepted c = judged_accepted c.judged.result c.args.config.now c.judged.ensures

pub returns-clause-refused : goal.returns-clause-refused
returns-clause-refused c = judged_refused c.judged.result c.args.config.now c.judged.ensures

pub returns-clause-no_usage : goal.returns-clause-no_usage
returns-clause-no_usage c = judged_usage c.judged.result c.args.config.now c.judged.ensures
