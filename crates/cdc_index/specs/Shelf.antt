-- What is said of a place in a published file.
use Rattle.std.specs.Prelude.{◌≡◌, ℕ, ◌≤◌, ◌-◌, ◌<◌, Bool, true, false, List, Option, Some, None, Result, Ok, Err, length, take, drop}
use Rattle.cdc_index.specs.declared.shelf_fault.ShelfFault.{ShelfFault}
use Rattle.cdc_index.specs.declared.shelf_fault.ShelfFault.TheVariants.{DiskFault, Torn}
use Rattle.cdc_index.specs.Chain.{told_length, begins_event, is_chain, is_whole_file, is_boundary_of}

-- of a whole file it is said whether the place is a boundary; any other file is torn
abbrev pub TellsBoundary : List ℕ → ℕ → Result Bool ShelfFault → Type 0
TellsBoundary bytes at (Ok found) = (is_whole_file bytes ≡ true) × (found ≡ is_boundary_of bytes at)
TellsBoundary bytes at (Err Torn) = is_whole_file bytes ≡ false
TellsBoundary bytes at (Err DiskFault) = Unit {0}

-- a window shows a part of a file
pub record Shows (file window : List ℕ) (from size : ℕ) : Type 0 where
  pub bytes : take size window ≡ take size (drop from file)
  pub there : size ≤ length file - from

-- the length that the event at the front of these bytes tells; none where they are fewer than a header
abbrev pub TellsLength : List ℕ → Option ℕ → Type 0
TellsLength bytes None = length bytes < 19
TellsLength bytes (Some size) = (19 ≤ length bytes) × (size ≡ told_length bytes)

-- as TellsBoundary, of the events behind the magic alone
abbrev pub TellsEnds : List ℕ → ℕ → Result Bool ShelfFault → Type 0
TellsEnds bytes at (Ok found) = (is_chain (drop 4 bytes) ≡ true) × (found ≡ is_boundary_of bytes at)
TellsEnds bytes at (Err Torn) = is_chain (drop 4 bytes) ≡ false
TellsEnds bytes at (Err DiskFault) = Unit {0}

-- the length of the whole event at the front of these bytes; Torn where there is none
abbrev pub TellsEvent : List ℕ → Result ℕ ShelfFault → Type 0
TellsEvent bytes (Ok size) = (size ≡ told_length bytes) × (19 ≤ size) × (size ≤ length bytes)
TellsEvent bytes (Err Torn) = begins_event bytes ≡ false
TellsEvent bytes (Err DiskFault) = Unit {0}
