-- By what was found, and what the cuts leave.
use Rattle.cdc_dump_stage.specs.Disks.{disk_words}
use Rattle.cdc_windows.proofs.OutsReady.{opened_ready}
use Rattle.cdc_windows.proofs.ready.opened_outs_are_ready.Goals as goal

pub returns : goal.returns
returns g c = λ told plan txns start from opened made each sound few.
    opened_ready (disk_words g.D.Disk.tells g.D.Disk.seen g.D.Disk.synced g.D.Disk.pending g.D.Disk.may_leave g.D.Disk.moment g.D.Disk.left_since g.D.Disk.faults) told (λ disk. g.met.D.Disk.seen_may_stay disk told) plan txns start from
    c.args.old.now c.args.dumper.now c.args.job.now opened made each sound few
