-- What a cell knows of its record.
use Rattle.std.specs.Prelude.{◌≡◌, ℕ, ◌==◌, ◌||◌, nat_lt, Bool, false, List, [], length, Option, Some, None, option_map, if◌then◌else◌, Result, Ok, Err}
use Rattle.cdc_outside.specs.declared.disk_file.DiskFile.{DiskFile}
use Rattle.cdc_outside.specs.declared.disk_file.DiskFile.TheVariants.{SlotA, SlotB}
use Rattle.cdc_outside.specs.Disk.{Image}
use Rattle.cdc_cell.specs.Record.{CellRecord, bad_slot, kept_record, other_slot}
use Rattle.cdc_cell.specs.declared.fault.CellFault.{CellFault}
use Rattle.cdc_cell.specs.declared.fault.CellFault.TheVariants.{BadCell}
use Rattle.cdc_cell.specs.declared.cell.Cell.{Cell}
use Rattle.cdc_cell.specs.declared.cell.Kept.{Kept}
use Rattle.cdc_cell.specs.declared.slot.SlotHead.{SlotHead}

-- what a cell keeps of its record
abbrev pub cell_kept_of : Cell → Option Kept
cell_kept_of cell = cell.kept

-- a store failed, so that the cell isn't used again
abbrev pub has_failed : Cell → Bool
has_failed cell = cell.failed

-- what is kept of a record
abbrev pub known_of : CellRecord → Kept
known_of found = record { slot = found.slot; number = found.number; length = length found.payload }

-- the payload's length, where a record is kept
abbrev pub length_in : Option Kept → Option ℕ
length_in None = None
length_in (Some kept) = Some kept.length

-- the record's number, 0 where none is kept
abbrev pub number_in : Option Kept → ℕ
number_in None = 0
number_in (Some kept) = kept.number

-- the slot that keeps the record
abbrev pub slot_in : Option Kept → Option DiskFile
slot_in None = None
slot_in (Some kept) = Some kept.slot

-- the slot that does not hold it
abbrev pub target_in : Option Kept → DiskFile
target_in None = SlotA
target_in (Some kept) = other_slot kept.slot

-- the length of a cell's payload, where it keeps a record
abbrev pub length_of : Cell → Option ℕ
length_of cell = length_in cell.kept

-- the number of a cell's record, 0 where it keeps none
abbrev pub cell_number_of : Cell → ℕ
cell_number_of cell = number_in cell.kept

-- the slot that keeps a cell's record
abbrev pub slot_of : Cell → Option DiskFile
slot_of cell = slot_in cell.kept

-- the slot that the next store writes
abbrev pub target_of : Cell → DiskFile
target_of cell = target_in cell.kept

-- the cell knows the record of this image, and no slot is bad
pub record Knows (cell : Cell) (image : Image) : Type 0 where
  pub sound : bad_slot image ≡ None
  pub kept : cell.kept ≡ option_map known_of (kept_record image)

-- a cell as it is opened, or the bad slot
abbrev pub opened_from : Option DiskFile → Option Kept → Result Cell CellFault
opened_from None kept = Ok record { kept = kept; failed = false }
opened_from (Some slot) kept = Err (BadCell slot)

-- the cell of an image, or its bad slot
abbrev pub decided : Image → Result Cell CellFault
decided image = opened_from (bad_slot image) (option_map known_of (kept_record image))

-- what is kept of an open slot
abbrev pub kept_head : DiskFile → SlotHead → Kept
kept_head slot head = record { slot = slot; number = head.number; length = head.length }

-- the same by the heads of the slots that are open
abbrev pub decided_by : Option SlotHead → Option SlotHead → Result Cell CellFault
decided_by None None = opened_from None None
decided_by (Some one) None = if one.overruns then Err (BadCell SlotA) else opened_from None (Some (kept_head SlotA one))
decided_by None (Some two) = if two.overruns then Err (BadCell SlotB) else opened_from None (Some (kept_head SlotB two))
decided_by (Some one) (Some two) =
    if one.overruns then Err (BadCell SlotA)
    else if two.overruns || one.number == two.number then Err (BadCell SlotB)
    else if nat_lt two.number one.number then opened_from None (Some (kept_head SlotA one)) else opened_from None (Some (kept_head SlotB two))

-- a record's payload
abbrev pub payload_in : Option CellRecord → List ℕ
payload_in None = []
payload_in (Some found) = found.payload
