-- Nothing is pending, so an image is what is seen.
use Rattle.std.proofs.Common.{sym, ap, subst}
use Rattle.cdc_outside.specs.Disk.{Image}
use Rattle.cdc_outside.proofs.Pending.{durable_left}
use Rattle.cdc_records.specs.declared.front.Front.{Front}
use Rattle.cdc_recovery.specs.Outputs.{KeepsFrom}
use Rattle.cdc_dump_stage.specs.Disks.{disk_words}
use Rattle.cdc_dump_stage.specs.Taking.{is_well}
use Rattle.cdc_dump_stage.proofs.Published.{whole_keeps}
use Rattle.cdc_dump_stage.proofs.law.whole_outputs_keep_all.Goals as goal

pub returns : goal.returns
returns g c = λ told standing whole plan txns sent ready image left.
    let disk = c.args.disk.now in
    let stands = standing.stands told (ap is_well whole) in
    let all = (standing.whole whole).1 in
    let seen = durable_left (g.D.Disk.seen disk) (g.D.Disk.synced disk) (g.D.Disk.pending disk) image (stands.idle (ap (λ (f : Front). f.count) all)) (g.met.D.Disk.image_is disk image told left) in
    subst (λ (i : Image). KeepsFrom plan txns sent i) (sym seen) (whole_keeps (disk_words g.D.Disk.tells g.D.Disk.seen g.D.Disk.synced g.D.Disk.pending g.D.Disk.may_leave g.D.Disk.moment g.D.Disk.left_since g.D.Disk.faults) plan txns sent c.args.stage.now disk stands.has all whole ready)
