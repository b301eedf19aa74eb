use Rattle.std.proofs.Common.{ℕ, List, Err, ap, subst, sym, ◌∙◌}
use Rattle.toml.specs.View.{view}
use Rattle.cdc_config.specs.Keys.{task_from}
use Rattle.cdc_config.specs.Tree.{GivesPart}
use Rattle.cdc_config.proofs.PathKeys.{node_refused, out_refused, paths_judged, task_refused}
use Rattle.cdc_config.proofs.judging.paths_in.Goals as goal

pub returns-in-Err-clause-judged : goal.returns-in-Err-clause-judged
returns-in-Err-clause-judged c = node_refused (view c.args.root.now) c.in-Err.misfit c.at.result c.at.ensures c.in-Err.ensures.nodes

pub returns-in-Err-outs_of-clause-judged : goal.returns-in-Err-outs_of-clause-judged
returns-in-Err-outs_of-clause-judged c =
    out_refused (view c.args.root.now) c.in-Ok.nodes c.in-Err-outs_of.misfit c.at-in-Err-outs_of.result c.at-in-Err-outs_of.ensures c.in-Ok.ensures.nodes c.in-Err-outs_of.ensures.outs

pub returns-in-Err-task_of-clause-judged : goal.returns-in-Err-task_of-clause-judged
returns-in-Err-task_of-clause-judged c =
    let given = subst (λ (taken : List (List ℕ)). GivesPart {A = List ℕ} (Err c.in-Err-task_of.misfit) (task_from taken (view c.args.root.now))) c.as_slice.ensures c.in-Err-task_of.ensures in
    task_refused (view c.args.root.now) c.in-Ok.nodes c.in-Ok-outs_of.outs.folders c.in-Err-task_of.misfit c.at-in-Err-task_of.result c.at-in-Err-task_of.ensures c.in-Ok.ensures.nodes c.in-Ok-outs_of.ensures.outs.0 given

pub returns-in-Ok-task_of-clause-judged : goal.returns-in-Ok-task_of-clause-judged
returns-in-Ok-task_of-clause-judged c =
    let task = ap (λ (taken : List (List ℕ)). task_from taken (view c.args.root.now)) (sym c.as_slice.ensures) ∙ c.in-Ok-task_of.ensures in
    paths_judged (view c.args.root.now)
    (record { node_files = c.in-Ok.nodes; out_folders = c.in-Ok-outs_of.outs.folders; listen = c.in-Ok-outs_of.outs.listen; task_folder = c.in-Ok-task_of.task_folder })
    c.in-Ok.ensures.nodes c.in-Ok-outs_of.ensures.outs.0 c.in-Ok-outs_of.ensures.outs.1 task
