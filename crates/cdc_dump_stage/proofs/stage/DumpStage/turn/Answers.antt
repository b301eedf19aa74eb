-- What came off the lane, and what was done with it.
use Rattle.std.proofs.Common.{[], ◌∷◌, refl}
use Rattle.cdc_dump_stage.specs.Disks.{disk_words}
use Rattle.cdc_dump_stage.proofs.Keeping.{nothing_keeps}
use Rattle.cdc_dump_stage.proofs.Carrying.{carries_none}
use Rattle.cdc_dump_stage.proofs.stage.DumpStage.turn.Goals as goal

pub returns-in-Some-clause-took : goal.returns-in-Some-clause-took
returns-in-Some-clause-took g c = (c.in-Some.item ∷ [], c.in-Some.ensures.moved, (c.if-self.false, c.take.ensures.took), c.take.ensures.carries)

pub returns-in-None-clause-took : goal.returns-in-None-clause-took
returns-in-None-clause-took g c = (
  [],
  c.in-None.ensures.moved,
  (c.if-self.false, refl, refl),
  λ told. carries_none (disk_words g.D.Disk.tells g.D.Disk.seen g.D.Disk.synced g.D.Disk.pending g.D.Disk.may_leave g.D.Disk.moment g.D.Disk.left_since g.D.Disk.faults) c.args.self.now c.args.disk.now (λ plan txns. nothing_keeps (disk_words g.D.Disk.tells g.D.Disk.seen g.D.Disk.synced g.D.Disk.pending g.D.Disk.may_leave g.D.Disk.moment g.D.Disk.left_since g.D.Disk.faults) (λ disk. g.met.D.Disk.seen_may_stay disk told) (λ disk t image. g.met.D.Disk.counts_now disk t image told) (λ disk image. g.met.D.Disk.only_now disk image told) plan txns c.args.disk.now),
)

pub returns-then-self-clause-took : goal.returns-then-self-clause-took
returns-then-self-clause-took g c = (
  [],
  g.met.O.LaneOut.starts c.args.lane.now,
  (c.if-self.true, refl, refl),
  λ told. carries_none (disk_words g.D.Disk.tells g.D.Disk.seen g.D.Disk.synced g.D.Disk.pending g.D.Disk.may_leave g.D.Disk.moment g.D.Disk.left_since g.D.Disk.faults) c.args.self.now c.args.disk.now (λ plan txns. nothing_keeps (disk_words g.D.Disk.tells g.D.Disk.seen g.D.Disk.synced g.D.Disk.pending g.D.Disk.may_leave g.D.Disk.moment g.D.Disk.left_since g.D.Disk.faults) (λ disk. g.met.D.Disk.seen_may_stay disk told) (λ disk t image. g.met.D.Disk.counts_now disk t image told) (λ disk image. g.met.D.Disk.only_now disk image told) plan txns c.args.disk.now),
)
