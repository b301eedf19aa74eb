-- So far all windows have run, and all that is kept is.
use Rattle.std.proofs.Common.{◌≡◌, true, false, ◌⊎◌, ◌≤◌, ℕ, IsTrue, length}
use Rattle.std.specs.List.{AllByRecursion}
use Rattle.cdc_outside.specs.Count.{Rose}
use Rattle.cdc_model.specs.declared.node_log.NodeLog.{NodeLog}
use Rattle.cdc_model.specs.Transaction.{key_at}
use Rattle.std.proofs.Common.{List}
use Rattle.cdc_recovery.specs.Outputs.{OutputPlan, planned_transactions}
use Rattle.cdc_turns.specs.Flow.{line_with}
use Rattle.cdc_dump_stage.specs.Disks.{disk_words}
use Rattle.cdc_dump_stage.specs.Standing.{IsReadyFor}
use Rattle.cdc_dump_stage.specs.Job.{dump_account}
use Rattle.cdc_dump_stage.specs.Taking.{is_well}
use Rattle.cdc_windows.specs.Keeping.{IsTaskStanding}
use Rattle.cdc_windows.specs.Rereading.{RememberFrom}
use Rattle.cdc_windows.specs.Windows.{HasRun, ReadLogs, KeepsAll, IsOffered}
use Rattle.cdc_windows.proofs.windows.run_windows.Given as goal

abbrev pub invariant-windows : goal.invariant-windows
invariant-windows g l =
    let w = disk_words g.D.Disk.tells g.D.Disk.seen g.D.Disk.synced g.D.Disk.pending g.D.Disk.may_leave g.D.Disk.moment g.D.Disk.left_since g.D.Disk.faults in
    record {
      ran : HasRun g.N.NodeTurns.account g.M.MergeTurns.account (dump_account w) g.N.NodePart.rereading (line_with l.fn.nodes l.fn.ins l.fn.merge l.fn.outs l.fn.dumps) (line_with l.nodes l.ins l.merge l.outs l.dumps);
      keeps : IsTrue g.D.Disk.tells → (plan : OutputPlan) (logs : List NodeLog) (from : ℕ) → plan.rotation ≡ l.fn.rotation
          → ReadLogs g.N.NodeTurns.account g.M.MergeTurns.account g.N.NodePart.rereading g.M.MergePart.came plan logs from l.fn.nodes l.fn.merge
          → AllByRecursion (λ job. IsReadyFor w plan (planned_transactions plan logs) from job.stage job.disk) l.fn.dumps
          → KeepsAll w plan logs (g.M.MergePart.came l.merge).count l.fn.dumps l.dumps l.fn.task l.task;
      standing : IsTaskStanding g.D.Disk.tells g.D.Disk.seen g.D.Disk.synced g.D.Disk.pending l.keeper l.task;
      place : l.at ≤ length l.schedule;
      fails : l.keeper.failed ≡ true → (l.fn.keeper.failed ≡ true) ⊎ Rose (g.D.Disk.faults l.fn.task) (g.D.Disk.faults l.task);
      later : g.D.Disk.faults l.fn.task ≤ g.D.Disk.faults l.task;
      remember : (plan : OutputPlan) (logs : List NodeLog) (from : ℕ) → ReadLogs g.N.NodeTurns.account g.M.MergeTurns.account g.N.NodePart.rereading g.M.MergePart.came plan logs from l.fn.nodes l.fn.merge
          → RememberFrom g.N.NodePart.rereading (key_at (planned_transactions plan logs) from) l.fn.nodes → RememberFrom g.N.NodePart.rereading (g.M.MergePart.came l.merge).last l.nodes;
      last : l.kept ≡ true → AllByRecursion (λ job. (job.stage.ended ≡ true) × (is_well job.stage.end ≡ true)) l.dumps → RememberFrom g.N.NodePart.rereading (g.M.MergePart.came l.merge).last l.nodes
          → l.keeper.failed ≡ false → IsOffered g.N.NodePart.rereading l.fn.rotation l.nodes (g.M.MergePart.came l.merge) l.keeper.cell;
    }
