-- The entries of a node's log, and the fault of a file's bytes or of its grammar that ends them.
use Rattle.std.specs.Prelude.{◌≡◌, ◌≢◌, ◌⊎◌, ◌+◌, ℕ, List, [], ◌∷◌, ◌++◌, ◌<◌, slice_index, map, Option, Some, None}
use Rattle.std.specs.List.{AllByRecursion}
use Rattle.std.specs.Option.{option_map}
use Rattle.cdc_base.specs.declared.place.Place.{Place}
use Rattle.cdc_event.specs.declared.fault.FileFault.{FileFault}
use Rattle.cdc_event.specs.File.{PlacedEvent, AreFileEvents}
use Rattle.cdc_model.specs.declared.fault.GroupFault.{GroupFault}
use Rattle.cdc_model.specs.declared.fault.NodeFault.{NodeFault}
use Rattle.cdc_model.specs.declared.fault.NodeFault.TheVariants.{File, Group}
use Rattle.cdc_model.specs.Records.{LogEntry}
use Rattle.cdc_model.specs.Log.{IsLogPrefix}
use Rattle.cdc_model.specs.Sign.{SignedEvent, signed}
use Rattle.cdc_model.specs.Group.{ReadsItems, Fits, Progress, Reaches}
use Rattle.cdc_model.specs.Misfit.{misfit}

-- events: whole items with these entries, and then an unfinished item that has come so far
pub record ReadsTo (file : ℕ) (events : List SignedEvent) (entries : List LogEntry) (progress : Progress) : Type 0 where
  pub whole : List SignedEvent
  pub part : List SignedEvent
  pub events_in_order : events ≡ whole ++ part
  pub reads : ReadsItems file whole entries
  pub reaches : Reaches part progress

-- the first event with which events cease to fit, and what is wrong with it
pub record CeasesToFit (file : ℕ) (events : List SignedEvent) (entries : List LogEntry) (misplaced : SignedEvent) (fault : GroupFault) : Type 0 where
  pub front : List SignedEvent
  pub behind : List SignedEvent
  pub progress : Progress
  pub events_in_order : events ≡ front ++ misplaced ∷ behind
  pub reads : ReadsTo file front entries progress
  pub ceases : Fits file (front ++ misplaced ∷ []) → ⊥
  pub kind : misfit progress (misplaced.sign) ≡ Some fault

-- a fault of a file's bytes at its place
abbrev pub file_fault : ℕ → Option (ℕ × FileFault) → Option (Place × NodeFault)
file_fault file found = option_map (λ (fault : ℕ × FileFault). (record { file = file; at = fault.0 }, File fault.1)) found

-- the entries of a file's events: an event that doesn't fit ends them; where all fit, what is unfinished at the end is dropped,
-- and the fault is the bytes' own
abbrev pub AreEntriesOfEvents : ℕ → List SignedEvent → Option (ℕ × FileFault) → List LogEntry → Option (Place × NodeFault) → Type 0
AreEntriesOfEvents file events ended entries fault =
    ((progress : Progress) × ReadsTo file events entries progress × (fault ≡ file_fault file ended))
    ⊎ ((misplaced : SignedEvent) × (wrong : GroupFault) × CeasesToFit file events entries misplaced wrong
    × (fault ≡ Some (record { file = file; at = misplaced.at }, Group wrong)))

-- the entries of file `file` with these bytes
abbrev pub AreFileEntries : ℕ → List ℕ → List LogEntry → Option (Place × NodeFault) → Type 0
AreFileEntries file bytes entries fault =
    (events : List PlacedEvent) × (ended : Option (ℕ × FileFault)) × AreFileEvents bytes events ended × AreEntriesOfEvents file (map signed events) ended entries fault

-- the entries of files from this number on: those of each file in order, up to the first fault
abbrev pub AreEntriesFrom : ℕ → List (List ℕ) → List LogEntry → Option (Place × NodeFault) → Type 0
AreEntriesFrom file [] entries fault = (entries ≡ []) × (fault ≡ None)
AreEntriesFrom file (bytes ∷ files) entries fault =
    ((fault ≢ None) × AreFileEntries file bytes entries fault)
    ⊎ ((own later : List LogEntry) × (entries ≡ own ++ later) × AreFileEntries file bytes own None × AreEntriesFrom (file + 1) files later fault)

-- the entries of a node's log, numbered from 1 as they stand, and the file or group fault that ended them
abbrev pub AreLogEntries : List (List ℕ) → List LogEntry → Option (Place × NodeFault) → Type 0
AreLogEntries files entries fault = AreEntriesFrom 1 files entries fault

-- ---- laws

-- law: whole items are read in one way
abbrev pub EventsHaveOneReading : Type 0
EventsHaveOneReading = (file : ℕ) (events : List SignedEvent) (entries others : List LogEntry) → ReadsItems file events entries → ReadsItems file events others → entries ≡ others

-- law: an unfinished item at the end is one, and so is how far it has come
abbrev pub OneProgress : Type 0
OneProgress = (file : ℕ) (events : List SignedEvent) (entries others : List LogEntry) (progress other : Progress)
    → ReadsTo file events entries progress → ReadsTo file events others other → (entries ≡ others) × (progress ≡ other)

-- law: events fit exactly where they are whole items and an unfinished one
abbrev pub FittingIsRead : Type 0
FittingIsRead =
    ((file : ℕ) (events : List SignedEvent) → Fits file events → (entries : List LogEntry) × (progress : Progress) × ReadsTo file events entries progress)
    × ((file : ℕ) (events : List SignedEvent) (entries : List LogEntry) (progress : Progress) → ReadsTo file events entries progress → Fits file events)

-- law: what fits has fronts that fit, and where no items begin so, none begin with more
abbrev pub FrontsFit : Type 0
FrontsFit = (file : ℕ) (front more : List SignedEvent) → (Fits file (front ++ more) → Fits file front) × ((Fits file front → ⊥) → Fits file (front ++ more) → ⊥)

-- law: one event more fits exactly where the table has no fault for it
abbrev pub MisfitsAreTold : Type 0
MisfitsAreTold = (file : ℕ) (events : List SignedEvent) (entries : List LogEntry) (progress : Progress) (next : SignedEvent)
    → ReadsTo file events entries progress
    → (misfit progress next.sign ≡ None → Fits file (events ++ next ∷ []))
    × ((fault : GroupFault) → misfit progress next.sign ≡ Some fault → Fits file (events ++ next ∷ []) → ⊥)

-- law: events have entries, whatever they are
abbrev pub EventsHaveEntries : Type 0
EventsHaveEntries = (file : ℕ) (events : List SignedEvent) (ended : Option (ℕ × FileFault))
    → (entries : List LogEntry) × (fault : Option (Place × NodeFault)) × AreEntriesOfEvents file events ended entries fault

-- law: each log has entries, whatever its bytes are
abbrev pub EachLogHasEntries : Type 0
EachLogHasEntries = (files : List (List ℕ)) → AllByRecursion (λ (bytes : List ℕ). (i : ℕ) → slice_index bytes i < 256) files
    → (entries : List LogEntry) × (fault : Option (Place × NodeFault)) × AreLogEntries files entries fault

-- law: a log has one list of entries, and one fault or none
abbrev pub OneEntryList : Type 0
OneEntryList = (files : List (List ℕ)) (entries others : List LogEntry) (fault other : Option (Place × NodeFault))
    → AreLogEntries files entries fault → AreLogEntries files others other → (entries ≡ others) × (fault ≡ other)

-- the entries of a longer log begin with those of a shorter, and a fault stays
pub record LengthensLog (entries longer : List LogEntry) (fault later : Option (Place × NodeFault)) : Type 0 where
  pub new : List LogEntry
  pub kept : longer ≡ entries ++ new
  pub stays : fault ≢ None → (new ≡ []) × (later ≡ fault)

-- law: a log that continues another keeps its entries, and its fault where it had one
abbrev pub ContinuedLogKeepsEntries : Type 0
ContinuedLogKeepsEntries = (files others : List (List ℕ)) (entries longer : List LogEntry) (fault later : Option (Place × NodeFault))
    → IsLogPrefix files others → AreLogEntries files entries fault → AreLogEntries others longer later → LengthensLog entries longer fault later
