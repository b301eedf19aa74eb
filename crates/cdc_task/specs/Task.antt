-- The task's checkpoint: what loading answers, what a store leaves, and whether a pass goes on from it.
use Rattle.std.specs.Prelude.{◌≡◌, ℕ, ◌≤◌, ◌⊎◌, false, List, length, Option, Some, None, All, Result, Ok, Err, ⊤}
use Rattle.cdc_outside.specs.declared.disk_file.DiskFile.{DiskFile}
use Rattle.cdc_outside.specs.Disk.{Image}
use Rattle.cdc_cell.specs.declared.cell.Cell.{Cell}
use Rattle.cdc_cell.specs.Record.{CellRecord, bad_slot, kept_record, HasOldRecord, SameLogs}
use Rattle.cdc_cell.specs.Cell.{Knows, has_failed}
use Rattle.cdc_records.specs.declared.checkpoint.Checkpoint.{Checkpoint}
use Rattle.cdc_records.specs.Checkpoint.{IsPointRecord, HasPoint}
use Rattle.cdc_task.specs.declared.fault.TaskFault.{TaskFault}
use Rattle.cdc_task.specs.declared.fault.TaskFault.TheVariants.{DiskFault, BadCell, NodeCount, Rotation, Memory}

-- ---- what loading answers

-- the checkpoint that is kept, if any, has so many nodes, and was made under no other rotation size
abbrev pub FitsPlan : ℕ → ℕ → Option Checkpoint → Type 0
FitsPlan nodes rotation None = ⊤
FitsPlan nodes rotation (Some p) = (length p.nodes ≡ nodes) × ((named : ℕ) → p.rotation ≡ Some named → named ≡ rotation)

-- the task's disk is opened: nothing else is kept than this checkpoint, and the cell knows its record
pub record IsOpened (image : Image) (nodes rotation : ℕ) (cell : Cell) (kept : Option Checkpoint) : Type 0 where
  pub works : has_failed cell ≡ false
  pub knows : Knows cell image
  pub has : HasPoint image kept
  pub fits : FitsPlan nodes rotation kept

-- a slot keeps no checkpoint: it is bad, or its record is none's
pub data IsBadTask (image : Image) (slot : DiskFile) : Type 0 where
  bad : bad_slot image ≡ Some slot → IsBadTask image slot
  no_point : bad_slot image ≡ None → (r : CellRecord) → kept_record image ≡ Some r → r.slot ≡ slot → ((p : Checkpoint) → IsPointRecord r p → ⊥) → IsBadTask image slot

-- the kept checkpoint has another number of nodes
pub record DiffersInNodes (nodes : ℕ) (kept : Option Checkpoint) (had given : ℕ) : Type 0 where
  pub point : Checkpoint
  pub is : kept ≡ Some point
  pub had_is : had ≡ length point.nodes
  pub given_is : given ≡ nodes
  pub differ : had ≡ given → ⊥

-- the kept checkpoint has as many nodes, and was made under another rotation size
pub record DiffersInRotation (nodes rotation : ℕ) (kept : Option Checkpoint) (had given : ℕ) : Type 0 where
  pub point : Checkpoint
  pub is : kept ≡ Some point
  pub as_many : length point.nodes ≡ nodes
  pub had_is : point.rotation ≡ Some had
  pub given_is : given ≡ rotation
  pub differ : had ≡ given → ⊥

-- an image keeps a checkpoint, if any, of which this holds
pub record Keeps (image : Image) (P : Option Checkpoint → Type 0) : Type 0 where
  pub point : Option Checkpoint
  pub has : HasPoint image point
  pub so : P point

-- what loading answers by what a read of the disk gives; want of memory and a failure of the disk aside
abbrev pub IsLoaded : Image → ℕ → ℕ → Result (Cell × Option Checkpoint) TaskFault → Type 0
IsLoaded image nodes rotation (Ok opened) = IsOpened image nodes rotation opened.0 opened.1
IsLoaded image nodes rotation (Err DiskFault) = ⊤
IsLoaded image nodes rotation (Err (BadCell slot)) = IsBadTask image slot
IsLoaded image nodes rotation (Err (NodeCount kept given)) = Keeps image (λ point. DiffersInNodes nodes point kept given)
IsLoaded image nodes rotation (Err (Rotation kept given)) = Keeps image (λ point. DiffersInRotation nodes rotation point kept given)
IsLoaded image nodes rotation (Err Memory) = ⊤

-- what reading the kept checkpoint answers, of whatever plan it is
abbrev pub IsKeptOr : Image → Result (Option Checkpoint) TaskFault → Type 0
IsKeptOr image (Ok point) = HasPoint image point
IsKeptOr image (Err DiskFault) = ⊤
IsKeptOr image (Err (BadCell slot)) = IsBadTask image slot
IsKeptOr image (Err (NodeCount kept given)) = ⊥
IsKeptOr image (Err (Rotation kept given)) = ⊥
IsKeptOr image (Err Memory) = ⊤

-- a fault that isn't the record's
abbrev pub IsOutside : TaskFault → Type 0
IsOutside DiskFault = ⊤
IsOutside (BadCell slot) = ⊥
IsOutside (NodeCount kept given) = ⊥
IsOutside (Rotation kept given) = ⊥
IsOutside Memory = ⊤

-- whether a kept checkpoint is of a plan
abbrev pub IsFitting : ℕ → ℕ → Option Checkpoint → Result (Unit {0}) TaskFault → Type 0
IsFitting nodes rotation point (Ok done) = FitsPlan nodes rotation point
IsFitting nodes rotation point (Err DiskFault) = ⊥
IsFitting nodes rotation point (Err (BadCell slot)) = ⊥
IsFitting nodes rotation point (Err (NodeCount kept given)) = DiffersInNodes nodes point kept given
IsFitting nodes rotation point (Err (Rotation kept given)) = DiffersInRotation nodes rotation point kept given
IsFitting nodes rotation point (Err Memory) = ⊥

-- ---- what a store leaves

-- this checkpoint is kept, and all logs are as they were
pub record HasNewPoint (p : Checkpoint) (old image : Image) : Type 0 where
  pub point : HasPoint image (Some p)
  pub logs : SameLogs old image

-- the old record or this checkpoint
abbrev pub IsOldOrNewPoint : Checkpoint → Image → Image → Type 0
IsOldOrNewPoint p old image = HasOldRecord old image ⊎ HasNewPoint p old image

-- ---- where a pass begins

-- a checkpoint is kept, and no output has fewer transactions than it
abbrev pub GoesOnFrom : Option Checkpoint → List ℕ → Type 0
GoesOnFrom None counts = ⊥
GoesOnFrom (Some p) counts = All (λ reached. p.count ≤ reached) counts
