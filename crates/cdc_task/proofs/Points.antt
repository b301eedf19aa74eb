-- A cell's record as a checkpoint.
use Rattle.std.proofs.Common.{◌≡◌, ◌-◌, ◌^◌, min, ℕ, List, Option, Some, inl, inr, sym, subst, refl, arith}
use Rattle.cdc_outside.specs.declared.disk_file.DiskFile.{DiskFile}
use Rattle.cdc_outside.specs.Disk.{Image}
use Rattle.cdc_cell.specs.Record.{CellRecord, HasOldRecord, HasNewRecord, IsOldOrNew}
use Rattle.cdc_cell.specs.Cell.{Knows}
use Rattle.cdc_cell.specs.declared.cell.Cell.{Cell}
use Rattle.cdc_records.specs.declared.checkpoint.Checkpoint.{Checkpoint}
use Rattle.cdc_records.specs.Checkpoint.{point_bytes, point_number, FitsPoint, IsPoint, IsKeptPoint}
use Rattle.cdc_task.specs.Task.{HasNewPoint, IsOldOrNewPoint}

pub new_point : (p : Checkpoint) (slot : DiskFile) (number : ℕ) (payload : List ℕ) (old image : Image) → FitsPoint p → IsPoint p → number ≡ min (point_number p) (2 ^ 64 - 1)
    → payload ≡ point_bytes p → HasNewRecord slot number payload old image → HasNewPoint p old image
new_point p slot number payload old image fits is counted spelled new = record {
  point = record {
    cell = new.sound;
    kept = subst (λ (r : Option CellRecord). IsKeptPoint r (Some p)) (sym new.kept)
        (record { fits = fits; is = is; number = omega (arith, counted, is.number); payload = spelled });
  };
  logs = new.logs;
}

pub old_or_new_point : (p : Checkpoint) (slot : DiskFile) (number : ℕ) (payload : List ℕ) (old image : Image) → FitsPoint p → IsPoint p → number ≡ min (point_number p) (2 ^ 64 - 1)
    → payload ≡ point_bytes p → IsOldOrNew slot number payload old image → IsOldOrNewPoint p old image
old_or_new_point p slot number payload old image fits is counted spelled (inl kept) = inl kept
old_or_new_point p slot number payload old image fits is counted spelled (inr new) = inr (new_point p slot number payload old image fits is counted spelled new)

-- an image that is as it was has the old record
pub as_it_was : (cell : Cell) (p : Checkpoint) (old image : Image) → Knows cell old → image ≡ old → IsOldOrNewPoint p old image
as_it_was cell p old image knows same = inl (subst (HasOldRecord old) (sym same) (record { sound = knows.sound; kept = refl; logs = λ n. refl }))
