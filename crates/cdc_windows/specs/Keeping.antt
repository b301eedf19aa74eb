-- The task while a pass runs, and what keeping a checkpoint leaves.
use Rattle.std.specs.Prelude.{◌≡◌, ◌⊎◌, false, Bool, IsTrue, List}
use Rattle.cdc_outside.specs.declared.disk_file.DiskFile.{DiskFile}
use Rattle.cdc_outside.specs.Disk.{Image, Change, IsDurable}
use Rattle.cdc_cell.specs.Cell.{Knows, has_failed}
use Rattle.cdc_records.specs.declared.checkpoint.Checkpoint.{Checkpoint}
use Rattle.cdc_task.specs.Task.{IsOldOrNewPoint}
use Rattle.cdc_windows.specs.declared.keeper.Keeper.{Keeper}

-- where the task's disk didn't fail, its cell works and knows the record, and nothing is pending
pub record IsTaskStanding {D : Type 0} (told : Bool) (seen synced : D → Image) (pending : D → DiskFile → List Change) (keeper : Keeper) (task : D) : Type 0 where
  pub works : keeper.failed ≡ false → has_failed keeper.cell ≡ false
  pub knows : IsTrue told → keeper.failed ≡ false → Knows keeper.cell (seen task)
  pub durable : IsTrue told → keeper.failed ≡ false → IsDurable (seen task) (synced task) (pending task)

-- what keeping a checkpoint may leave: what might be left before, the old record, or this checkpoint
abbrev pub IsStored : (Image → Type 0) → Image → Checkpoint → Image → Type 0
IsStored images seen p image = images image ⊎ IsOldOrNewPoint p seen image

-- what keeping a checkpoint of a kind may leave, where one may be kept
abbrev pub IsStoredBy : (Image → Type 0) → Image → Type 0 → (Checkpoint → Type 0) → Image → Type 0
IsStoredBy images seen allowed Made image = images image ⊎ (allowed × ((p : Checkpoint) × Made p × IsOldOrNewPoint p seen image))
