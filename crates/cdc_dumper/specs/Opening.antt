-- What is found in an image of an output, and what an opening leaves of it.
use Rattle.std.specs.Prelude.{◌≡◌, ◌≢◌, ℕ, ◌+◌, ◌≤◌, ◌<◌, ◌⊎◌, List, [], length, take, None, Some}
use Rattle.cdc_outside.specs.declared.disk_file.DiskFile.{DiskFile}
use Rattle.cdc_outside.specs.declared.disk_file.DiskFile.TheVariants.{SlotA, SlotB, Log}
use Rattle.cdc_outside.specs.Disk.{Image}
use Rattle.cdc_cell.specs.Record.{CellRecord, bad_slot, kept_record}
use Rattle.cdc_records.specs.declared.front.Front.{Front}
use Rattle.cdc_records.specs.Front.{no_front, HasFront, IsFrontRecord, IsSoundFront}
use Rattle.cdc_dumper.specs.declared.fault.OpenFault.{OpenFault}
use Rattle.cdc_dumper.specs.declared.fault.OpenFault.TheVariants.{DiskFault, BadCell, BadFront}

-- a slot's record of these parts
abbrev pub record_of : DiskFile → ℕ → List ℕ → CellRecord
record_of slot number payload = record { slot = slot; number = number; payload = payload }

-- the record stands in this slot, and isn't a Front's
pub record IsNoFrontRecord (image : Image) (slot : DiskFile) : Type 0 where
  pub cell : bad_slot image ≡ None
  pub found : CellRecord
  pub kept : kept_record image ≡ Some found
  pub here : slot ≡ found.slot
  pub no_front : (f : Front) → IsFrontRecord found f → ⊥

-- a slot for which an output is refused: the cell refuses it, or its record isn't a Front's
abbrev pub IsRefused : Image → DiskFile → Type 0
IsRefused image slot = (bad_slot image ≡ Some slot) ⊎ IsNoFrontRecord image slot

-- the Front's file has fewer bytes than the Front says
pub record FileIsShort (image : Image) (kept found : ℕ) : Type 0 where
  pub front : Front
  pub has : HasFront image front
  pub said : kept ≡ front.length
  pub there : found ≡ length (image (Log front.file))
  pub short : found < kept

-- the Front of an image, whose file has all bytes that it says
pub record IsFound (image : Image) (front : Front) : Type 0 where
  pub has : HasFront image front
  pub whole : front.length ≤ length (image (Log front.file))

-- why an image is refused; a fault of the disk is told by its count
abbrev pub IsOpenFault : Image → OpenFault → Type 0
IsOpenFault image DiskFault = Unit {0}
IsOpenFault image (BadCell slot) = IsRefused image slot
IsOpenFault image (BadFront kept found) = FileIsShort image kept found

-- both slots are as they were
pub record SameSlots (old new : Image) : Type 0 where
  pub first : new SlotA ≡ old SlotA
  pub second : new SlotB ≡ old SlotB

-- what the cuts of an opening may leave: all that is published is as it was
pub record IsTrimmed (f : Front) (old image : Image) : Type 0 where
  pub slots : SameSlots old image
  pub file : take f.length (image (Log f.file)) ≡ take f.length (old (Log f.file))
  pub others : (number : ℕ) → number ≢ f.file → number ≢ f.file + 1 → image (Log number) ≡ old (Log number)

-- what the cuts leave once they are done: nothing stands behind the Front
pub record IsTrimmedTo (f : Front) (old new : Image) : Type 0 where
  pub trimmed : IsTrimmed f old new
  pub file : 1 ≤ f.file → new (Log f.file) ≡ take f.length (old (Log f.file))
  pub next : new (Log (f.file + 1)) ≡ []

-- a crash in an opening leaves what it could leave before, or what the cuts leave of what is seen
abbrev pub IsOldOrTrimmed : (Image → Type 0) → Image → Image → Type 0
IsOldOrTrimmed leaves seen image = leaves image ⊎ ((f : Front) × IsFound seen f × IsTrimmed f seen image)

-- a Front that a record has, or none
abbrev pub IsFrontOrNone : Front → Type 0
IsFrontOrNone f = (f ≡ no_front) ⊎ IsSoundFront f

-- every file above a number is empty
abbrev pub AreEmptyBehind : ℕ → Image → Type 0
AreEmptyBehind number image = (other : ℕ) → number < other → image (Log other) ≡ []
