use Rattle.cdc_outside.specs.Disk.{Image}
use Rattle.cdc_outside.proofs.Moments.{started}
use Rattle.cdc_outside.proofs.Pending.{durable_left}
use Rattle.cdc_task.specs.Task.{IsOldOrNewPoint}
use Rattle.std.proofs.Common.{◌∙◌}
use Rattle.cdc_cell.specs.Cell.{target_of}
use Rattle.cdc_task.proofs.Points.{as_it_was, new_point}
use Rattle.cdc_task.proofs.storing.store.Goals as goal

pub returns-in_default-clause-any_moment : goal.returns-in_default-clause-any_moment
returns-in_default-clause-any_moment g c = λ told durable knows.
    let disk = c.args.disk.now in
    let seen : Image = g.D.Disk.seen disk in
    started g.D.Disk.moment g.D.Disk.left_since disk (IsOldOrNewPoint c.args.checkpoint.now seen)
    (λ image left. as_it_was c.args.cell.now c.args.checkpoint.now seen image knows
    (durable_left seen (g.D.Disk.synced disk) (g.D.Disk.pending disk) image durable (g.met.D.Disk.image_is disk image told (g.met.D.Disk.only_now disk image told left))))

pub returns-in-Ok-store-clause-new : goal.returns-in-Ok-store-clause-new
returns-in-Ok-store-clause-new g c = λ told knows.
    new_point c.args.checkpoint.now (target_of c.args.cell.now) c.number.result c.bytes.result.now (g.D.Disk.seen c.args.disk.now) (g.D.Disk.seen c.store.new.disk)
    c.in-Ok.ensures.fits c.requires.point c.number.ensures (c.bytes.ensures.value ∙ c.in-Ok.ensures.bytes) (c.in-Ok-store.ensures.new told knows)
