-- The laws of what is recoverable: where logs go on, and that counts are one.
use Rattle.std.specs.Prelude.{◌≡◌, ℕ, ◌≤◌, List, [], Option, None}
use Rattle.cdc_outside.specs.Disk.{Image}
use Rattle.cdc_model.specs.declared.node_log.NodeLog.{NodeLog}
use Rattle.cdc_model.specs.Records.{Transaction}
use Rattle.cdc_model.specs.SettledOrder.{IsFront}
use Rattle.cdc_model.specs.Growth.{LogsGrow}
use Rattle.cdc_records.specs.declared.checkpoint.Checkpoint.{Checkpoint}
use Rattle.cdc_records.specs.declared.front.Front.{Front}
use Rattle.cdc_records.specs.Front.{HasFront}
use Rattle.cdc_records.specs.Checkpoint.{point_number}
use Rattle.cdc_recovery.specs.Outputs.{OutputPlan, planned_transactions, KeepsOut}
use Rattle.cdc_recovery.specs.Checkpoints.{IsSoundCheckpoint, IsLastCheckpoint, KeepsPoint}

-- ---- the beginning

-- law: an output that has nothing is recoverable, with no transaction
abbrev pub NothingIsKept : Type 0
NothingIsKept = (plan : OutputPlan) (txns : List Transaction) → KeepsOut plan txns 0 (λ file. [])

-- law: a task that has nothing is recoverable, with no checkpoint
abbrev pub NoTaskIsKept : Type 0
NoTaskIsKept = (plan : OutputPlan) (logs : List NodeLog) → KeepsPoint plan logs None (λ file. [])

-- ---- logs go on

-- law: an output that is recoverable for some transactions is so, with the same count, for those that begin with them
abbrev pub OutputsStayKept : Type 0
OutputsStayKept = (plan : OutputPlan) (txns more : List Transaction) (count : ℕ) (image : Image)
    → IsFront txns more → KeepsOut plan txns count image → KeepsOut plan more count image

-- law: so it is for logs that go on
abbrev pub LogsKeepOutputs : Type 0
LogsKeepOutputs = (plan : OutputPlan) (olds news : List NodeLog) (count : ℕ) (image : Image)
    → LogsGrow olds news → KeepsOut plan (planned_transactions plan olds) count image → KeepsOut plan (planned_transactions plan news) count image

-- law: a sound checkpoint stays sound for logs that go on
abbrev pub CheckpointStaysSound : Type 0
CheckpointStaysSound = (plan : OutputPlan) (olds news : List NodeLog) (p : Checkpoint)
    → LogsGrow olds news → IsSoundCheckpoint plan olds p → IsSoundCheckpoint plan news p

-- law: a task that is recoverable for some logs is so, with the same checkpoint, for logs that go on
abbrev pub LogsKeepTask : Type 0
LogsKeepTask = (plan : OutputPlan) (olds news : List NodeLog) (point : Option Checkpoint) (image : Image)
    → LogsGrow olds news → KeepsPoint plan olds point image → KeepsPoint plan news point image

-- ---- counts

-- law: an image has one Front
abbrev pub ImageHasOneFront : Type 0
ImageHasOneFront = (image : Image) (f g : Front) → HasFront image f → HasFront image g → f ≡ g

-- law: whatever transactions it is recoverable for, an output has one count
abbrev pub CountIsOne : Type 0
CountIsOne = (plan other : OutputPlan) (txns more : List Transaction) (count also : ℕ) (image : Image)
    → KeepsOut plan txns count image → KeepsOut other more also image → count ≡ also

-- two checkpoints are the same, but for the rotation size
pub record IsSameBut (p q : Checkpoint) : Type 0 where
  pub count : p.count ≡ q.count
  pub layout : p.layout ≡ q.layout
  pub last : p.last ≡ q.last
  pub nodes : p.nodes ≡ q.nodes

-- law: a sound checkpoint whose record number isn't below the last one's is that one
abbrev pub LatestIsLast : Type 0
LatestIsLast = (plan : OutputPlan) (logs : List NodeLog) (p q : Checkpoint)
    → IsSoundCheckpoint plan logs p → IsLastCheckpoint plan logs q → point_number q ≤ point_number p → IsSameBut p q
