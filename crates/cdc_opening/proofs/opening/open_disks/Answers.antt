-- What the task is refused for, the disks are.
use Rattle.cdc_opening.proofs.Found.{all_open}
use Rattle.cdc_opening.proofs.Refusals.{task_refused}
use Rattle.cdc_opening.proofs.opening.open_disks.Goals as goal

pub returns-in-Err-open_task-clause-refused : goal.returns-in-Err-open_task-clause-refused
returns-in-Err-open_task-clause-refused g c =
    task_refused g.D.Disk.tells _ (g.D.Disk.seen c.args.task.now) c.args.nodes c.args.rotation
    (all_open g.D.Disk.tells g.D.Disk.seen g.D.Disk.synced g.D.Disk.pending c.args.outs.now c.in-Ok.dumpers.items c.open_outs.new.outs c.in-Ok.ensures.opened) c.in-Err-open_task.outcome c.in-Err-open_task.ensures.refused
