-- A store leaves the old record or this checkpoint.
use Rattle.std.proofs.Common.{inr}
use Rattle.cdc_outside.proofs.Moments.{weaker}
use Rattle.cdc_task.specs.Task.{IsOldOrNewPoint}
use Rattle.cdc_windows.specs.Keeping.{IsStored}
use Rattle.cdc_windows.proofs.keeper.keep.Goals as goal

pub returns-in-Ok-clause-any_moment : goal.returns-in-Ok-clause-any_moment
returns-in-Ok-clause-any_moment g c = λ told.
    weaker g.D.Disk.moment g.D.Disk.left_since c.args.task.now c.store.new.disk (IsOldOrNewPoint c.args.checkpoint.now (g.D.Disk.seen c.args.task.now))
    (IsStored (g.D.Disk.may_leave c.args.task.now) (g.D.Disk.seen c.args.task.now) c.args.checkpoint.now)
    (c.store.ensures.any_moment told (c.requires.standing.durable told c.if-keeper.false) (c.requires.standing.knows told c.if-keeper.false)) (λ image is. inr is)

pub returns-in-Err-DiskFault-clause-any_moment : goal.returns-in-Err-DiskFault-clause-any_moment
returns-in-Err-DiskFault-clause-any_moment g c = λ told.
    weaker g.D.Disk.moment g.D.Disk.left_since c.args.task.now c.store.new.disk (IsOldOrNewPoint c.args.checkpoint.now (g.D.Disk.seen c.args.task.now))
    (IsStored (g.D.Disk.may_leave c.args.task.now) (g.D.Disk.seen c.args.task.now) c.args.checkpoint.now)
    (c.store.ensures.any_moment told (c.requires.standing.durable told c.if-keeper.false) (c.requires.standing.knows told c.if-keeper.false)) (λ image is. inr is)
