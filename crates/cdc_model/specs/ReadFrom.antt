-- Entries that are read from a place of a log on, under a checksum setting there.
use Rattle.std.specs.Prelude.{◌≡◌, ◌≢◌, ◌⊎◌, ◌↔◌, ℕ, ◌+◌, ◌-◌, List, [], ◌∷◌, ◌++◌, drop, map, Option, None}
use Rattle.cdc_base.specs.declared.place.Place.{Place}
use Rattle.cdc_event.specs.declared.fault.FileFault.{FileFault}
use Rattle.cdc_event.specs.File.{PlacedEvent, AreEventsFrom}
use Rattle.cdc_model.specs.declared.fault.NodeFault.{NodeFault}
use Rattle.cdc_model.specs.Records.{LogEntry}
use Rattle.cdc_model.specs.Sign.{signed}
use Rattle.cdc_model.specs.Entries.{AreEntriesOfEvents, AreEntriesFrom, AreLogEntries}

-- the entries of file `file` with these bytes, from a byte on: byte 0 is the file's start, and any other counts as the end of an
-- event and of an entry
abbrev pub AreFileEntriesFrom : ℕ → ℕ → ℕ → List ℕ → List LogEntry → Option (Place × NodeFault) → Type 0
AreFileEntriesFrom file at checksum bytes entries fault =
    (events : List PlacedEvent) × (ended : Option (ℕ × FileFault))
    × AreEventsFrom at checksum (drop at bytes) events ended × AreEntriesOfEvents file (map signed events) ended entries fault

-- the entries of files from this number on, the first of them read from a byte on
abbrev pub AreEntriesOn : ℕ → ℕ → ℕ → List (List ℕ) → List LogEntry → Option (Place × NodeFault) → Type 0
AreEntriesOn file at checksum [] entries fault = (entries ≡ []) × (fault ≡ None)
AreEntriesOn file at checksum (bytes ∷ files) entries fault =
    ((fault ≢ None) × AreFileEntriesFrom file at checksum bytes entries fault)
    ⊎ ((own later : List LogEntry) × (entries ≡ own ++ later) × AreFileEntriesFrom file at checksum bytes own None
    × AreEntriesFrom (file + 1) files later fault)

-- the entries of a log from a place on, and the fault that ended them
abbrev pub AreEntriesReadFrom : Place → ℕ → List (List ℕ) → List LogEntry → Option (Place × NodeFault) → Type 0
AreEntriesReadFrom place checksum files entries fault = AreEntriesOn place.file place.at checksum (drop (place.file - 1) files) entries fault

-- the start of a log
abbrev pub first_place : Place
first_place = record { file = 1; at = 0 }

-- law: read from the start of a log, under whatever setting, its entries are all of it
abbrev pub StartReadsAll : Type 0
StartReadsAll = (checksum : ℕ) (files : List (List ℕ)) (entries : List LogEntry) (fault : Option (Place × NodeFault))
    → AreEntriesReadFrom first_place checksum files entries fault ↔ AreLogEntries files entries fault

-- law: read from the end of an entry on, under the setting there, the entries are those behind it, and so is the fault
abbrev pub RestOfLogIsRead : Type 0
RestOfLogIsRead = (files : List (List ℕ)) (before behind : List LogEntry) (entry : LogEntry) (fault : Option (Place × NodeFault))
    → AreLogEntries files (before ++ entry ∷ behind) fault → AreEntriesReadFrom entry.end entry.checksum files behind fault

-- law: from a place on, under a setting, a log is read in one way
abbrev pub OneRest : Type 0
OneRest = (place : Place) (checksum : ℕ) (files : List (List ℕ)) (entries others : List LogEntry) (fault other : Option (Place × NodeFault))
    → AreEntriesReadFrom place checksum files entries fault → AreEntriesReadFrom place checksum files others other → (entries ≡ others) × (fault ≡ other)
