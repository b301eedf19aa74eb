-- What a pass keeps of the outputs and of the task.
use Rattle.std.specs.Prelude.{◌≡◌, ℕ, true, List, Option}
use Rattle.std.specs.List.{AllZip, AllByRecursion}
use Rattle.cdc_outside.specs.Disk.{Image}
use Rattle.cdc_base.specs.declared.key.Key.{Key}
use Rattle.cdc_model.specs.declared.layout.Layout.{Layout}
use Rattle.cdc_model.specs.declared.node_log.NodeLog.{NodeLog}
use Rattle.cdc_records.specs.declared.checkpoint.Checkpoint.{Checkpoint}
use Rattle.cdc_recovery.specs.Outputs.{OutputPlan, planned_transactions, KeepsFrom}
use Rattle.cdc_recovery.specs.Checkpoints.{KeepsPoint}
use Rattle.cdc_recovery.specs.Growing.{Each}
use Rattle.cdc_dump_stage.specs.Disks.{DiskWords, LosesNothing}
use Rattle.cdc_opening.specs.declared.outcome.Outcome.TheVariants.{Differs, Key as OtherKey}
use Rattle.cdc_windows.specs.declared.pass.Passed.{Passed}
use Rattle.cdc_windows.specs.Windows.{TaskGoesOn}

-- over a pass that came to so many of these logs' transactions no output loses anything at any moment, and each keeps them all
-- where all are whole; where each output kept some before it, and the task was recoverable, this is so at every moment, and no
-- checkpoint that was kept runs ahead of an output
pub record PassKeeps {D : Type 0} (w : DiskWords D) (plan : OutputPlan) (logs : List NodeLog) (count : ℕ) (passed : Passed) (olds news : List D) (task_old task_new : D) : Type 0 where
  pub outs : AllZip (λ (old : D) (new : D). LosesNothing w plan (planned_transactions plan logs) old new) olds news
  pub all : passed.whole ≡ true → AllByRecursion (λ (disk : D). Each (w.may_leave disk) (KeepsFrom plan (planned_transactions plan logs) count)) news
  pub task : AllByRecursion (λ (disk : D). Each (w.may_leave disk) (KeepsFrom plan (planned_transactions plan logs) 0)) olds
      → Each (w.may_leave task_old) (λ (image : Image). (point : Option Checkpoint) × KeepsPoint plan logs point image)
      → TaskGoesOn w plan logs count news task_old task_new
  pub refuses_none : (out : ℕ) → ((kept given : Layout) → passed.cause ≡ Differs out kept given → ⊥) × ((kept given : Key) → passed.cause ≡ OtherKey out kept given → ⊥)
