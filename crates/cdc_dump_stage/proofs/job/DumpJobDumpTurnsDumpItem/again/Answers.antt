-- Nothing but the end changes.
use Rattle.std.proofs.Common.{[], subst}
use Rattle.cdc_dump_stage.specs.Disks.{disk_words}
use Rattle.cdc_dump_stage.specs.Job.{StagedDisk, staged, HasGone}
use Rattle.cdc_dump_stage.proofs.Keeping.{nothing_keeps}
use Rattle.cdc_dump_stage.proofs.Jobs.{reopens}
use Rattle.cdc_dump_stage.proofs.job.DumpJobDumpTurnsDumpItem.again.Goals as goal

pub returns-clause-turned : goal.returns-clause-turned
returns-clause-turned g c =
    subst (λ (job : StagedDisk g.row.D.Denot). HasGone (disk_words g.D.Disk.tells g.D.Disk.seen g.D.Disk.synced g.D.Disk.pending g.D.Disk.may_leave g.D.Disk.moment g.D.Disk.left_since g.D.Disk.faults) job [] (staged c.again.new.self c.self.inside.disk)) c.self.view_is
    (reopens (disk_words g.D.Disk.tells g.D.Disk.seen g.D.Disk.synced g.D.Disk.pending g.D.Disk.may_leave g.D.Disk.moment g.D.Disk.left_since g.D.Disk.faults) (λ plan txns disk told. nothing_keeps (disk_words g.D.Disk.tells g.D.Disk.seen g.D.Disk.synced g.D.Disk.pending g.D.Disk.may_leave g.D.Disk.moment g.D.Disk.left_since g.D.Disk.faults) (λ disk. g.met.D.Disk.seen_may_stay disk told) (λ disk t image. g.met.D.Disk.counts_now disk t image told) (λ disk image. g.met.D.Disk.only_now disk image told) plan txns disk)
    c.self.inside.stage c.again.new.self c.self.inside.disk c.again.ensures.dumper.0 c.again.ensures.end)
