-- The record of a cell: that of the open slot with the greater number.
use Rattle.std.specs.Prelude.{◌≡◌, ℕ, nat_lt, ◌<◌, true, ◌==◌, ◌&&◌, ◌||◌, not, Bool, false, List, length, slice_index, Option, Some, None, ◌≤◌, if◌then◌else◌, ◌⊎◌}
use Rattle.cdc_outside.specs.declared.disk_file.DiskFile.{DiskFile}
use Rattle.cdc_outside.specs.declared.disk_file.DiskFile.TheVariants.{SlotA, SlotB, Log}
use Rattle.cdc_outside.specs.Disk.{Image, with_file}
use Rattle.cdc_cell.specs.Slot.{is_open, is_overrun, slot_number, slot_payload}

-- a record, with the slot that keeps it
pub record CellRecord : Type 0 where
  pub slot : DiskFile
  pub number : ℕ
  pub payload : List ℕ

-- the record of an open slot
abbrev pub record_in : DiskFile → List ℕ → CellRecord
record_in slot bytes = record { slot = slot; number = slot_number bytes; payload = slot_payload bytes }

-- by whether each of two open slots is overrun, and whether they have one number
abbrev pub bad_by : Bool → Bool → Bool → Option DiskFile
bad_by first second same = if first then Some SlotA else if second || same then Some SlotB else None

-- by whether each of two slots is open, and whether the second has the lesser number
abbrev pub kept_by : {R : Type 0} → Bool → Bool → Bool → R → R → Option R
kept_by first second less one two = if first && (not second || less) then Some one else if second then Some two else None

-- the slot that makes a cell bad: the first open one whose length goes past its file's end, or the second of one number
abbrev pub bad_slot : Image → Option DiskFile
bad_slot image = bad_by (is_overrun (image SlotA)) (is_overrun (image SlotB)) (is_open (image SlotA) && is_open (image SlotB) && (slot_number (image SlotA) == slot_number (image SlotB)))

-- the record, where no slot is bad
abbrev pub kept_record : Image → Option CellRecord
kept_record image = kept_by (is_open (image SlotA)) (is_open (image SlotB)) (nat_lt (slot_number (image SlotB)) (slot_number (image SlotA))) (record_in SlotA (image SlotA)) (record_in SlotB (image SlotB))

-- log files are as they were
abbrev pub SameLogs : Image → Image → Type 0
SameLogs old new = (number : ℕ) → new (Log number) ≡ old (Log number)

-- the old record is kept
pub record HasOldRecord (old new : Image) : Type 0 where
  pub sound : bad_slot new ≡ None
  pub kept : kept_record new ≡ kept_record old
  pub logs : SameLogs old new

-- a new record is kept, in the slot that did not keep the old one
pub record HasNewRecord (slot : DiskFile) (number : ℕ) (payload : List ℕ) (old new : Image) : Type 0 where
  pub sound : bad_slot new ≡ None
  pub kept : kept_record new ≡ Some record { slot = slot; number = number; payload = payload }
  pub logs : SameLogs old new

-- the old record or the new one
abbrev pub IsOldOrNew : DiskFile → ℕ → List ℕ → Image → Image → Type 0
IsOldOrNew slot number payload old new = HasOldRecord old new ⊎ HasNewRecord slot number payload old new

-- while a slot's gate is closed: it is as it was, or shut
pub record IsClosing (slot : DiskFile) (old left : Image) : Type 0 where
  pub others : left ≡ with_file slot (left slot) old
  pub own : (left slot ≡ old slot) ⊎ (is_open (left slot) ≡ false)

-- its gate stands closed
pub record IsShut (slot : DiskFile) (old new : Image) : Type 0 where
  pub others : new ≡ with_file slot (new slot) old
  pub there : 1 ≤ length (new slot)
  pub gate : slice_index (new slot) 0 ≡ 1 → ⊥

-- one of the two slots
abbrev pub IsSlot : DiskFile → Type 0
IsSlot slot = (slot ≡ SlotA) ⊎ (slot ≡ SlotB)

-- the other one
abbrev pub other_slot : DiskFile → DiskFile
other_slot SlotA = SlotB
other_slot SlotB = SlotA
other_slot (Log number) = SlotA

-- a slot may be written: the other one has the record, if there is one, and a lesser number
pub record IsReady (slot : DiskFile) (number : ℕ) (old : Image) : Type 0 where
  pub sound : bad_slot old ≡ None
  pub free : kept_record old ≡ (if is_open (old (other_slot slot)) then Some (record_in (other_slot slot) (old (other_slot slot))) else None)
  pub less : is_open (old (other_slot slot)) ≡ true → slot_number (old (other_slot slot)) < number
