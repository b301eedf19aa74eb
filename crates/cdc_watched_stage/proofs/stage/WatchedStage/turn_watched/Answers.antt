-- Where nothing was taken nothing was handed on, and where the stage is whole nothing waits.
use Rattle.std.proofs.Common.{[], refl, sym, ◌∙◌}
use Rattle.cdc_dump_stage.specs.Disks.{disk_words}
use Rattle.cdc_dump_stage.specs.Job.{staged}
use Rattle.cdc_dump_stage.specs.JobLaws.{gone_nowhere}
use Rattle.cdc_watched_stage.specs.Laws.{handed_none}
use Rattle.cdc_watched_stage.proofs.Handed.{whole_none}
use Rattle.cdc_watched_stage.proofs.stage.WatchedStage.turn_watched.Goals as goal

pub returns-then-has_ended-clause-took : goal.returns-then-has_ended-clause-took
returns-then-has_ended-clause-took g c = (
  [],
  g.met.O.LaneOut.starts c.args.lane.now,
  (sym c.has_ended.ensures ∙ c.if-has_ended.true, refl, refl),
  (gone_nowhere (disk_words g.D.Disk.tells g.D.Disk.seen g.D.Disk.synced g.D.Disk.pending g.D.Disk.may_leave g.D.Disk.moment g.D.Disk.left_since g.D.Disk.faults) (λ told disk image. g.met.D.Disk.only_now disk image told) (staged c.args.self.now.stage c.args.disk.now)).carries,
  handed_none g.W.Watch.kept g.W.Watch.ended c.args.self.now c.args.self.now c.args.watch.now refl refl refl,
)

pub returns-then-has_ended-clause-none : goal.returns-then-has_ended-clause-none
returns-then-has_ended-clause-none g c = λ whole. whole_none c.args.self.now c.requires.watching (c.requires.standing.whole whole).1

pub returns-in-None-clause-took : goal.returns-in-None-clause-took
returns-in-None-clause-took g c = (
  [],
  c.in-None.ensures.moved,
  (sym c.has_ended.ensures ∙ c.if-has_ended.false, refl, refl),
  (gone_nowhere (disk_words g.D.Disk.tells g.D.Disk.seen g.D.Disk.synced g.D.Disk.pending g.D.Disk.may_leave g.D.Disk.moment g.D.Disk.left_since g.D.Disk.faults) (λ told disk image. g.met.D.Disk.only_now disk image told) (staged c.args.self.now.stage c.args.disk.now)).carries,
  handed_none g.W.Watch.kept g.W.Watch.ended c.args.self.now c.args.self.now c.args.watch.now refl refl refl,
)

pub returns-in-Some-clause-none : goal.returns-in-Some-clause-none
returns-in-Some-clause-none g c = λ whole. whole_none c.take.new.self c.take.ensures.watching (c.take.ensures.standing.whole whole).1
