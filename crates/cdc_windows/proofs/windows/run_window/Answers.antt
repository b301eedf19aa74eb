-- A window that flows runs to its end.
use Rattle.cdc_turns.specs.Flow.{line_with}
use Rattle.cdc_dump_stage.specs.Disks.{disk_words}
use Rattle.cdc_dump_stage.specs.Job.{dump_account}
use Rattle.cdc_dump_stage.specs.JobLaws.{gone_on}
use Rattle.cdc_windows.proofs.Flows.{runs_on}
use Rattle.cdc_windows.proofs.Remembering.{turns_remember}
use Rattle.cdc_windows.proofs.windows.run_window.Goals as goal

pub returns-clause-runs : goal.returns-clause-runs
returns-clause-runs g c = λ first flows.
    let w = disk_words g.D.Disk.tells g.D.Disk.seen g.D.Disk.synced g.D.Disk.pending g.D.Disk.may_leave g.D.Disk.moment g.D.Disk.left_since g.D.Disk.faults in
    runs_on g.N.NodeTurns.account g.M.MergeTurns.account (dump_account w) g.N.NodePart.rereading g.met.N.NodePart.turns_read_on g.met.N.NodePart.reads_more g.met.M.MergeTurns.adds
    (λ x y z p q. gone_on w (λ told disk t image le left. g.met.D.Disk.counts_now disk t image told le left) x y z p q) first
    (line_with c.args.nodes.now c.args.ins.now c.args.merge.now c.args.outs.now c.args.dumps.now) (line_with c.run.new.nodes c.run.new.ins c.run.new.merge c.run.new.outs c.run.new.dumps) flows
    c.run.ensures.fits c.run.ensures.nodes c.run.ensures.merge c.run.ensures.dumps.0 c.run.ensures.dumps.1 (c.run.ensures.dumps.2 flows.window flows.flow)

pub returns-clause-known : goal.returns-clause-known
returns-clause-known g c = λ last low. turns_remember g.N.NodePart.rereading g.N.NodeTurns.account g.met.N.NodePart.turns_keep_known last c.args.nodes.now c.run.new.nodes c.run.ensures.nodes low
