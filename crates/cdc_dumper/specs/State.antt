-- What a dumper knows, and how it stands to its disk.
use Rattle.std.specs.Prelude.{◌≡◌, ℕ, ◌+◌, ◌≤◌, ◌<◌, ◌==◌, true, false, Bool, List, [], length, None, Some, is_some, if◌then◌else◌}
use Rattle.cdc_outside.specs.declared.disk_file.DiskFile.{DiskFile}
use Rattle.cdc_outside.specs.declared.disk_file.DiskFile.TheVariants.{SlotA, SlotB, Log}
use Rattle.cdc_outside.specs.Disk.{Image, Change, Keep, IsWaiting, IsDurable}
use Rattle.cdc_cell.specs.declared.cell.Cell.{Cell}
use Rattle.cdc_cell.specs.Cell.{cell_number_of, has_failed, Knows}
use Rattle.cdc_records.specs.declared.front.Front.{Front}
use Rattle.cdc_records.specs.Front.{front_number, HasFront}
use Rattle.cdc_dumper.specs.Opening.{IsFrontOrNone}

-- the Front that is published, and the one of all that was appended
pub record DumperState : Type 0 where
  pub cell : Cell
  pub published : Front
  pub appended : Front
  pub failed : Bool

-- what was appended goes on from what is published, in its file or the next
pub record IsAhead (f g : Front) : Type 0 where
  pub first : g.first ≡ f.first
  pub passed : g.passed ≡ f.passed
  pub count : f.count ≤ g.count
  pub file : f.file ≤ g.file
  pub near : g.file ≤ f.file + 1
  pub length : g.file ≡ f.file → f.length ≤ g.length
  pub keyed : f.count < g.count → is_some g.last ≡ true
  pub same : g.count ≡ f.count → g ≡ f

-- what is true of each dumper
pub record IsShaped (s : DumperState) : Type 0 where
  pub number : cell_number_of s.cell ≡ front_number s.published
  pub works : s.failed ≡ false → has_failed s.cell ≡ false
  pub published : IsFrontOrNone s.published
  pub appended : IsFrontOrNone s.appended
  pub ahead : IsAhead s.published s.appended

-- what is to stay of each file until the next commit: the slots, the published bytes of the Front's file, nothing of the
-- file behind it, and all of the others
abbrev pub keep_of : Front → Keep
keep_of f SlotA = None
keep_of f SlotB = None
keep_of f (Log number) = if number == f.file then Some f.length else if number == f.file + 1 then Some 0 else None

-- what is to stay of each file while nothing was appended behind the Front's file: the published bytes of that, and all of
-- the others
abbrev pub keep_alone : Front → Keep
keep_alone f SlotA = None
keep_alone f SlotB = None
keep_alone f (Log number) = if number == f.file then Some f.length else None

-- the disk is as the dumper left it
pub record Stands (s : DumperState) (seen synced : Image) (pending : DiskFile → List Change) : Type 0 where
  pub knows : Knows s.cell seen
  pub has : HasFront seen s.published
  pub waiting : IsWaiting (keep_of s.published) seen synced pending
  pub alone : s.appended.file ≡ s.published.file → IsWaiting (keep_alone s.published) seen synced pending
  -- what was appended is seen, and nothing behind it
  pub whole : 1 ≤ s.appended.file → length (seen (Log s.appended.file)) ≡ s.appended.length
  pub above : (number : ℕ) → s.appended.file < number → seen (Log number) ≡ []
  -- where nothing was appended, nothing is pending
  pub idle : s.appended.count ≡ s.published.count → IsDurable seen synced pending
