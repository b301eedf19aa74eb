use Rattle.std.proofs.Common.{[], ◌++◌, Ok, Err}
use Rattle.toml.specs.View.{view}
use Rattle.cdc_config.specs.Judging.{AreExtras, AreSizesIn, extra_keys, path_keys, size_keys}
use Rattle.cdc_config.specs.Plan.{ArePaths, IsPlanIn}
use Rattle.cdc_config.proofs.Judged.{passed_all, refused_all}
use Rattle.cdc_config.proofs.Whole.{plan_made}
use Rattle.cdc_config.proofs.judging.plan_in.Goals as goal

pub returns-in-Err : goal.returns-in-Err
returns-in-Err c = refused_all (view c.args.root.now) size_keys (path_keys ++ extra_keys) c.in-Err.refusal (AreSizesIn (view c.args.root.now)) (IsPlanIn (view c.args.root.now)) c.in-Err.ensures.judged

pub returns-in-Err-paths_in : goal.returns-in-Err-paths_in
returns-in-Err-paths_in c =
    passed_all (view c.args.root.now) size_keys (path_keys ++ extra_keys) (Err c.in-Err-paths_in.refusal) (IsPlanIn (view c.args.root.now)) c.in-Ok.ensures.judged.0
    (refused_all (view c.args.root.now) path_keys extra_keys c.in-Err-paths_in.refusal (ArePaths (view c.args.root.now)) (IsPlanIn (view c.args.root.now)) c.in-Err-paths_in.ensures.judged)

pub returns-in-Err-extras_in : goal.returns-in-Err-extras_in
returns-in-Err-extras_in c =
    passed_all (view c.args.root.now) size_keys (path_keys ++ extra_keys) (Err c.in-Err-extras_in.refusal) (IsPlanIn (view c.args.root.now)) c.in-Ok.ensures.judged.0
    (passed_all (view c.args.root.now) path_keys extra_keys (Err c.in-Err-extras_in.refusal) (IsPlanIn (view c.args.root.now)) c.in-Ok-paths_in.ensures.judged.0
    (refused_all (view c.args.root.now) extra_keys [] c.in-Err-extras_in.refusal (AreExtras (view c.args.root.now)) (IsPlanIn (view c.args.root.now)) c.in-Err-extras_in.ensures.judged))

pub returns-in-Ok-extras_in : goal.returns-in-Ok-extras_in
returns-in-Ok-extras_in c =
    let made = plan_made (view c.args.root.now) c.in-Ok.sizes c.in-Ok-paths_in.paths c.in-Ok-extras_in.extras c.plan_with.result c.in-Ok.ensures.judged.1 c.in-Ok-paths_in.ensures.judged.1 c.in-Ok-extras_in.ensures.judged.1 c.plan_with.ensures in
    passed_all (view c.args.root.now) size_keys (path_keys ++ extra_keys) (Ok c.plan_with.result) (IsPlanIn (view c.args.root.now)) c.in-Ok.ensures.judged.0
    (passed_all (view c.args.root.now) path_keys extra_keys (Ok c.plan_with.result) (IsPlanIn (view c.args.root.now)) c.in-Ok-paths_in.ensures.judged.0
    (c.in-Ok-extras_in.ensures.judged.0, made))
