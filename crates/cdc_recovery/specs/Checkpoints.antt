-- Recoverable tasks: those whose checkpoint is sound.
use Rattle.std.specs.Prelude.{◌≡◌, ℕ, ◌≤◌, List, length, take, Option, Some, IfSome}
use Rattle.cdc_outside.specs.Disk.{Image}
use Rattle.cdc_cell.specs.Record.{kept_record}
use Rattle.cdc_model.specs.declared.node_log.NodeLog.{NodeLog}
use Rattle.cdc_model.specs.Output.{layout_of}
use Rattle.cdc_model.specs.Transaction.{key_at}
use Rattle.cdc_model.specs.Restart.{AreRestartPoints}
use Rattle.cdc_model.specs.RestartNodes.{AreLatestPoints}
use Rattle.cdc_records.specs.declared.checkpoint.Checkpoint.{Checkpoint}
use Rattle.cdc_records.specs.Checkpoint.{HasPoint}
use Rattle.cdc_recovery.specs.Outputs.{OutputPlan, planned_transactions}

-- a checkpoint is sound for logs that are read whole: its transactions are there, key and layout are theirs, and each node's
-- point is a restart point for that key
pub record IsSoundCheckpoint (plan : OutputPlan) (logs : List NodeLog) (p : Checkpoint) : Type 0 where
  pub within : p.count ≤ length (planned_transactions plan logs)
  pub last : p.last ≡ key_at (planned_transactions plan logs) p.count
  pub layout : p.layout ≡ layout_of plan.rules plan.rotation (take p.count (planned_transactions plan logs))
  pub points : AreRestartPoints p.last logs p.nodes

-- a sound checkpoint that has all transactions, and the latest restart points for the last one's key
pub record IsLastCheckpoint (plan : OutputPlan) (logs : List NodeLog) (p : Checkpoint) : Type 0 where
  pub sound : IsSoundCheckpoint plan logs p
  pub all : p.count ≡ length (planned_transactions plan logs)
  pub latest : AreLatestPoints p.last logs p.nodes

-- a sound checkpoint whose rotation size, where it is named, is the plan's
pub record IsRecoverablePoint (plan : OutputPlan) (logs : List NodeLog) (p : Checkpoint) : Type 0 where
  pub sound : IsSoundCheckpoint plan logs p
  pub rotation : (named : ℕ) → p.rotation ≡ Some named → named ≡ plan.rotation

-- an image of the task is recoverable with this checkpoint, or with none
pub record KeepsPoint (plan : OutputPlan) (logs : List NodeLog) (point : Option Checkpoint) (image : Image) : Type 0 where
  pub has : HasPoint image point
  pub recoverable : IfSome point (IsRecoverablePoint plan logs)

-- the record of an image is that of one at the start, or a checkpoint of at most so many transactions
pub data IsCovered (starts : Image → Type 0) (most : ℕ) (point : Option Checkpoint) (image : Image) : Type 0 where
  kept_on : (start : Image) → starts start → kept_record image ≡ kept_record start → IsCovered starts most point image
  stored : (p : Checkpoint) → point ≡ Some p → p.count ≤ most → IsCovered starts most point image

-- an image of the task is recoverable, and its record is covered
pub record KeepsTask (plan : OutputPlan) (logs : List NodeLog) (starts : Image → Type 0) (most : ℕ) (image : Image) : Type 0 where
  pub point : Option Checkpoint
  pub keeps : KeepsPoint plan logs point image
  pub covered : IsCovered starts most point image
