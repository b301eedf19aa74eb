-- The causes one after another.
use Rattle.std.proofs.Common.{◌++◌}
use Rattle.cdc_opening.specs.declared.outcome.Outcome.TheVariants.{TaskDisk}
use Rattle.cdc_windows.specs.Causes.{also_cause, causes_of_outs}
use Rattle.cdc_windows.proofs.pass.cause_of.Goals as goal

pub returns : goal.returns
returns g c =
    c.with_cause.ensures (causes_of_outs 1 c.args.jobs.now ++ also_cause c.args.task_failed TaskDisk) (c.with_cause-disks.ensures (causes_of_outs 1 c.args.jobs.now) c.outs_cause-outs.ensures)
