-- What calls that only read leave of a disk.
use Rattle.std.specs.Prelude.{◌≡◌, ℕ, List}
use Rattle.cdc_outside.specs.declared.disk_file.DiskFile.{DiskFile}
use Rattle.cdc_outside.specs.Disk.{Image, Change, LeavesOnly}

-- everything is as it was, and a crash left only what one could leave before
pub record IsLeftAlone {D : Type 0} (seen synced : D → Image) (pending : D → DiskFile → List Change) (may_leave : D → Image → Type 0) (moment : D → ℕ) (left_since : D → ℕ → Image → Type 0) (old new : D) : Type 0 where
  pub same : seen new ≡ seen old
  pub base : synced new ≡ synced old
  pub changes : pending new ≡ pending old
  pub crash : (image : Image) → may_leave new image → may_leave old image
  pub any_moment : LeavesOnly moment left_since old new (may_leave old)
