use Rattle.toml.specs.View.{view}
use Rattle.cdc_config.proofs.Whole.{text_judged, text_refused}
use Rattle.cdc_config.proofs.judging.judged.Goals as goal

pub returns-in-Ok : goal.returns-in-Ok
returns-in-Ok c = text_judged c.plan_in.result c.args.config.now (view c.in-Ok.root) c.in-Ok.ensures c.plan_in.ensures

pub returns-in-Err : goal.returns-in-Err
returns-in-Err c = text_refused c.in-Err.misfit c.at.result c.args.config.now c.at.ensures c.in-Err.ensures
