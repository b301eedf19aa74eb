-- The headline: what a pass leaves of its outputs and its task, at every moment and at its end, whatever the schedule.
use Rattle.std.specs.Prelude.{List, length, map, Some}
use Rattle.std.specs.List.{AllZip, AllByRecursion}
use Rattle.cdc_model.specs.declared.node_log.NodeLog.{NodeLog}
use Rattle.cdc_records.specs.declared.checkpoint.Checkpoint.{Checkpoint}
use Rattle.cdc_outside.specs.Disk.{Image}
use Rattle.cdc_records.specs.Checkpoint.{HasPoint, IsPoint}
use Rattle.cdc_reader.specs.Asking.{NothingBelow}
use Rattle.cdc_recovery.specs.Outputs.{OutputPlan, planned_transactions, KeepsFrom}
use Rattle.cdc_recovery.specs.Checkpoints.{IsLastCheckpoint}
use Rattle.cdc_recovery.specs.Growing.{Each}
use Rattle.cdc_dump_stage.specs.Disks.{DiskWords, LosesNothing}
use Rattle.cdc_node_stage.specs.Job.{SourceWords}
use Rattle.cdc_opening.specs.declared.outcome.Outcome.{Outcome}
use Rattle.cdc_opening.specs.Lists.{AllThree}
use Rattle.cdc_windows.specs.Windows.{TaskGoesOn}
use Rattle.cdc_headline.specs.Ending.{IsPassEnd, PublishesAll, ReadsAll}

-- where the task kept a checkpoint whose transactions each output had, no source was asked for a byte below its point
abbrev pub ReadsOnFromThePoint : {S D : Type 0} → SourceWords S → DiskWords D → OutputPlan → List NodeLog → List S → List S → List D → D → Type 0
ReadsOnFromThePoint {S} {D} s w plan logs nodes nodes_now outs task = (point : Checkpoint) → HasPoint (w.seen task) (Some point)
    → AllByRecursion (λ (disk : D). KeepsFrom plan (planned_transactions plan logs) point.count (w.seen disk)) outs
    → AllThree (λ cut (old : S) (new : S). NothingBelow cut.place (s.lowest old) (s.lowest new)) point.nodes nodes nodes_now

-- an image has a last checkpoint of these logs
pub record HasLastPoint (plan : OutputPlan) (logs : List NodeLog) (image : Image) : Type 0 where
  pub point : Checkpoint
  pub has : HasPoint image (Some point)
  pub last : IsLastCheckpoint plan logs point

-- each image of the task has a last checkpoint of these logs, where a record may have one
abbrev pub KeepsLastPoint : {D : Type 0} → DiskWords D → OutputPlan → List NodeLog → D → Type 0
KeepsLastPoint w plan logs task = (point : Checkpoint) → IsLastCheckpoint plan logs point → IsPoint point → Each (w.may_leave task) (HasLastPoint plan logs)

-- over a pass at every moment each image of each output keeps first transactions of the logs, as published files, and no fewer than
-- all its images had before; each image of the task keeps a sound checkpoint, or none, and none runs ahead of an output; with an
-- answer that publishes all, each image of each output keeps all transactions; with one that reads all, each image of the task has
-- the last checkpoint; the answer is the logs'; and nothing is read again
pub record Headline {S D : Type 0} (s : SourceWords S) (w : DiskWords D) (plan : OutputPlan) (logs : List NodeLog) (nodes nodes_now : List S) (outs outs_now : List D) (task task_now : D) (ending : Outcome) : Type 0 where
  pub outs_grow : AllZip (λ (old : D) (new : D). LosesNothing w plan (planned_transactions plan logs) old new) outs outs_now
  pub task_goes_on : TaskGoesOn w plan logs (length (planned_transactions plan logs)) outs_now task task_now
  pub published : PublishesAll ending → AllByRecursion (λ (disk : D). Each (w.may_leave disk) (KeepsFrom plan (planned_transactions plan logs) (length (planned_transactions plan logs)))) outs_now
  pub last : ReadsAll ending → KeepsLastPoint w plan logs task_now
  pub ends : IsPassEnd plan logs (map s.held nodes) ending
  pub resumed : ReadsOnFromThePoint s w plan logs nodes nodes_now outs task
