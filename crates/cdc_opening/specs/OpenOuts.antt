-- What the opening of outputs finds and leaves.
use Rattle.std.specs.Prelude.{◌≡◌, ℕ, ◌+◌, ◌-◌, ◌≤◌, false, Bool, IsTrue, List, length, take, slice_get, Some}
use Rattle.std.specs.List.{AllByRecursion}
use Rattle.cdc_outside.specs.declared.disk_file.DiskFile.{DiskFile}
use Rattle.cdc_outside.specs.Disk.{Image, Change, IsDurable, LeavesOnly}
use Rattle.cdc_model.specs.Records.{Transaction}
use Rattle.cdc_records.specs.declared.front.Front.{Front}
use Rattle.cdc_dumper.specs.declared.fault.OpenFault.{OpenFault}
use Rattle.cdc_dumper.specs.declared.fault.OpenFault.TheVariants.{DiskFault, BadCell, BadFront}
use Rattle.cdc_dumper.specs.Opening.{IsFound, IsRefused, FileIsShort, IsTrimmedTo, IsOldOrTrimmed, AreEmptyBehind}
use Rattle.cdc_dumper.specs.State.{DumperState, Stands}
use Rattle.cdc_recovery.specs.Outputs.{OutputPlan}
use Rattle.cdc_recovery.specs.Growing.{Grows}

-- an output that was opened: its dumper has the Front of what was seen and nothing else is appended; nothing is pending or
-- stands behind the Front, and a disk without files further on is as the dumper wants it
pub record IsOutOpened {D : Type 0} (told : Bool) (seen synced : D → Image) (pending : D → DiskFile → List Change) (old : D) (dumper : DumperState) (new : D) : Type 0 where
  pub works : dumper.failed ≡ false
  pub settled : dumper.appended ≡ dumper.published
  pub found : IsTrue told → IsFound (seen old) dumper.published
  pub durable : IsTrue told → IsDurable (seen new) (synced new) (pending new)
  pub trimmed : IsTrue told → IsTrimmedTo dumper.published (seen old) (seen new)
  pub stands : IsTrue told → AreEmptyBehind (dumper.published.file + 1) (seen old) → Stands dumper (seen new) (synced new) (pending new)

-- what an opening may leave of an output, also where it isn't opened: at every moment what it could leave before, or what
-- the cuts leave; so nothing that it keeps is lost, whatever transactions these are. Its count of faults doesn't fall
pub record IsOutKept {D : Type 0} (told : Bool) (seen : D → Image) (may_leave : D → Image → Type 0) (moment : D → ℕ) (left_since : D → ℕ → Image → Type 0) (faults : D → ℕ) (old new : D) : Type 0 where
  pub any_moment : IsTrue told → LeavesOnly moment left_since old new (IsOldOrTrimmed (may_leave old) (seen old))
  pub grows : IsTrue told → (plan : OutputPlan) (txns : List Transaction) → Grows may_leave moment left_since plan txns old new
  pub later : faults old ≤ faults new

-- why an image is refused, the disk's failures aside
abbrev pub IsRefusal : Image → OpenFault → Type 0
IsRefusal image DiskFault = ⊥
IsRefusal image (BadCell slot) = IsRefused image slot
IsRefusal image (BadFront kept found) = FileIsShort image kept found

-- an image of an output that can be opened: it has a Front, whose file has all bytes that it says
pub record CanOpen (image : Image) : Type 0 where
  pub front : Front
  pub found : IsFound image front

-- an output of this number, counted from 1, is there, and all before it can be opened
pub record OpenBefore (images : List Image) (out : ℕ) : Type 0 where
  pub first : 1 ≤ out
  pub last : out ≤ length images
  pub before : AllByRecursion CanOpen (take (out - 1) images)

-- an output is refused, and it is the first one
pub record IsOutRefused (images : List Image) (out : ℕ) (fault : OpenFault) : Type 0 where
  pub before : OpenBefore images out
  pub image : Image
  pub there : slice_get images (out - 1) ≡ Some image
  pub refused : IsRefusal image fault
