-- The pass is one over disks that have nothing.
use Rattle.std.proofs.Common.{refl}
use Rattle.cdc_opening.specs.declared.outcome.Outcome.TheVariants as pass
use Rattle.cdc_recovery.specs.Outputs.{planned_transactions}
use Rattle.cdc_pass.specs.Starting.{output_plan}
use Rattle.cdc_drill.specs.Drill.{drill_plan}
use Rattle.cdc_drill.proofs.Fresh.{fresh_are_clear}
use Rattle.cdc_drill.proofs.Passing.{has_told}
use Rattle.cdc_drill.proofs.attempt.pass_over.Goals as goal

pub run-requires-clause-clear : goal.run-requires-clause-clear
run-requires-clause-clear c told = fresh_are_clear c.args.outs.now.items c.requires.fresh_outs

pub returns-in-Some : goal.returns-in-Some
returns-in-Some c logs whole =
    let told =
    has_told (output_plan c.args.plan.now) c.args.nodes.now.items c.run.new.nodes.items c.args.outs.now.items c.run.new.outs.items c.args.task.now c.run.new.task pass.Done c.nothing_is_kept.ensures c.no_task_is_kept.ensures c.requires.output c.requires.fresh_outs c.requires.fresh_task
    (λ l over. c.in-Done.ensures.headline refl refl l over) logs whole in (told.ends, c.in-Some.ensures refl drill_plan (planned_transactions drill_plan logs) (told.keeps tt))

pub returns-in-TooLarge : goal.returns-in-TooLarge
returns-in-TooLarge c logs whole =
    (has_told (output_plan c.args.plan.now) c.args.nodes.now.items c.run.new.nodes.items c.args.outs.now.items c.run.new.outs.items c.args.task.now c.run.new.task (pass.TooLarge c.in-TooLarge.number c.in-TooLarge.bytes) c.nothing_is_kept.ensures c.no_task_is_kept.ensures c.requires.output c.requires.fresh_outs c.requires.fresh_task
    (λ l over. c.in-TooLarge.ensures.headline refl refl l over) logs whole).ends

pub returns-in-Node : goal.returns-in-Node
returns-in-Node c logs whole =
    (has_told (output_plan c.args.plan.now) c.args.nodes.now.items c.run.new.nodes.items c.args.outs.now.items c.run.new.outs.items c.args.task.now c.run.new.task (pass.Node c.in-Node.node c.in-Node.place c.in-Node.fault) c.nothing_is_kept.ensures c.no_task_is_kept.ensures c.requires.output c.requires.fresh_outs c.requires.fresh_task
    (λ l over. c.in-Node.ensures.headline refl refl l over) logs whole).ends
