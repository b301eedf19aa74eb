-- The stage's turn over the job's disk.
use Rattle.std.proofs.Common.{subst}
use Rattle.cdc_dump_stage.specs.Disks.{disk_words}
use Rattle.cdc_dump_stage.specs.Job.{StagedDisk, staged, dump_account}
use Rattle.cdc_turns.specs.Turns.{TakesItems, DumpSays}
use Rattle.cdc_dump_stage.proofs.Jobs.{takes, says}
use Rattle.cdc_dump_stage.proofs.job.DumpJobDumpTurnsDumpItem.turn.Goals as goal

pub returns-clause-takes : goal.returns-clause-takes
returns-clause-takes g c =
    let took = c.turn.ensures.took in
    subst (λ (job : StagedDisk g.row.D.Denot). TakesItems (dump_account (disk_words g.D.Disk.tells g.D.Disk.seen g.D.Disk.synced g.D.Disk.pending g.D.Disk.may_leave g.D.Disk.moment g.D.Disk.left_since g.D.Disk.faults)) job (staged c.turn.new.self c.turn.new.disk) c.args.lane.now c.turn.new.lane c.turn.result) c.self.view_is
    (takes (disk_words g.D.Disk.tells g.D.Disk.seen g.D.Disk.synced g.D.Disk.pending g.D.Disk.may_leave g.D.Disk.moment g.D.Disk.left_since g.D.Disk.faults) (staged c.self.inside.stage c.self.inside.disk) (staged c.turn.new.self c.turn.new.disk) c.args.lane.now c.turn.new.lane took.0 c.turn.result took.1 took.2 c.self.invariant took.3 c.turn.ensures.fails c.turn.ensures.later)

pub returns-clause-says : goal.returns-clause-says
returns-clause-says g c =
    let took = c.turn.ensures.took in
    subst (λ (job : StagedDisk g.row.D.Denot). DumpSays (dump_account (disk_words g.D.Disk.tells g.D.Disk.seen g.D.Disk.synced g.D.Disk.pending g.D.Disk.may_leave g.D.Disk.moment g.D.Disk.left_since g.D.Disk.faults)) job (staged c.turn.new.self c.turn.new.disk) c.args.lane.now c.turn.new.lane c.turn.result) c.self.view_is
    (says (disk_words g.D.Disk.tells g.D.Disk.seen g.D.Disk.synced g.D.Disk.pending g.D.Disk.may_leave g.D.Disk.moment g.D.Disk.left_since g.D.Disk.faults) (staged c.self.inside.stage c.self.inside.disk) (staged c.turn.new.self c.turn.new.disk) c.args.lane.now c.turn.new.lane took.0 c.turn.result took.1 took.2 c.turn.ensures.blocked)
