use Rattle.cdc_dump_stage.specs.Disks.{disk_words}
use Rattle.cdc_dump_stage.proofs.Keeping.{commit_kept}
use Rattle.cdc_dump_stage.proofs.group.commit.Goals as goal

pub returns-clause-kept : goal.returns-clause-kept
returns-clause-kept g c = λ told plan txns fronts.
    commit_kept (disk_words g.D.Disk.tells g.D.Disk.seen g.D.Disk.synced g.D.Disk.pending g.D.Disk.may_leave g.D.Disk.moment g.D.Disk.left_since g.D.Disk.faults) (λ disk. g.met.D.Disk.seen_may_stay disk told) (λ disk t image. g.met.D.Disk.counts_now disk t image told) (λ disk image. g.met.D.Disk.only_now disk image told) plan txns c.args.disk.now c.commit.new.disk c.args.dumper.now c.commit.new.self c.commit.result c.keeps_shape.ensures (c.requires.stands told).has (c.commit.ensures.any_moment told) c.commit.ensures.published c.commit.ensures.appended (c.commit.ensures.new told) fronts
