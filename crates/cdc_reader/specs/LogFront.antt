-- How far a node's log was read, and what of it was taken.
use Rattle.std.specs.Prelude.{◌≡◌, ◌≤◌, ℕ, ◌-◌, List, [], ◌∷◌, ◌++◌, take, drop, Option, None}
use Rattle.cdc_base.specs.declared.place.Place.{Place}
use Rattle.cdc_outside.specs.Source.{file_of}
use Rattle.cdc_model.specs.declared.fault.NodeFault.{NodeFault}
use Rattle.cdc_model.specs.declared.fault.NodeFault.TheVariants.{Sort}
use Rattle.cdc_model.specs.Records.{LogEntry}
use Rattle.cdc_model.specs.Soundness.{sound_entries, log_fault}
use Rattle.cdc_model.specs.SettledOrder.{IsFront}
use Rattle.cdc_model.specs.Restart.{RestartPoint, start_at}
use Rattle.cdc_model.specs.ReadFrom.{AreEntriesOn, AreEntriesReadFrom}
use Rattle.cdc_reader.specs.declared.follower.Follower.{Follower}
use Rattle.cdc_reader.specs.Fed.{AreFedEntries, Follows}

-- a node's log up to a place: the files before the place's, and that one up to its byte
abbrev pub log_up_to : Place → List (List ℕ) → List (List ℕ)
log_up_to place files = take (place.file - 1) files ++ take place.at (file_of files place.file) ∷ []

-- the bytes of a file from one byte up to another
abbrev pub bytes_between : ℕ → ℕ → List ℕ → List ℕ
bytes_between start at bytes = drop start (take at bytes)

-- whatever the log has from file `file` on: its entries from a point on are these, and behind them those of that file, from a byte on under a
-- setting there, and of the files behind it
abbrev pub LeadsTo : RestartPoint → List (List ℕ) → ℕ → ℕ → ℕ → List LogEntry → Type 0
LeadsTo point files file start checksum before =
    (others : List (List ℕ)) (entries : List LogEntry) (fault : Option (Place × NodeFault)) → take (file - 1) others ≡ take (file - 1) files
    → AreEntriesReadFrom point.place point.checksum others entries fault
    → (later : List LogEntry) × (entries ≡ before ++ later) × AreEntriesOn file start checksum (drop (file - 1) others) later fault

-- a log was read from a point up to a place, and these entries were found in it: those of the files before, and those of this file so far
pub record IsReadUpTo (point : RestartPoint) (files : List (List ℕ)) (follower : Follower) (place : Place) (taken : List LogEntry) : Type 0 where
  pub before : List LogEntry
  pub own : List LogEntry
  pub start : ℕ
  pub checksum : ℕ
  pub in_order : taken ≡ before ++ own
  pub first : 1 ≤ place.file
  pub begins : start ≤ place.at
  pub follows : Follows follower place.file start checksum (bytes_between start place.at (file_of files place.file)) own
  pub leads : LeadsTo point files place.file start checksum before

-- the same, and the bytes that were read have no more entries
pub record IsTakenTo (point : RestartPoint) (files : List (List ℕ)) (follower : Follower) (place : Place) (taken : List LogEntry) : Type 0 where
  pub read : IsReadUpTo point files follower place taken
  pub all : AreFedEntries place.file read.start read.checksum (bytes_between read.start place.at (file_of files place.file)) read.own None

-- the sound entries of a log from a point on are these, and its fault is this one or none
abbrev pub IsReadAs : RestartPoint → List (List ℕ) → List LogEntry → Option (Place × NodeFault) → Type 0
IsReadAs point files taken fault = (entries : List LogEntry) (ended : Option (Place × NodeFault))
    → AreEntriesReadFrom point.place point.checksum files entries ended
    → (sound_entries (start_at point) entries ≡ taken) × (log_fault Sort (start_at point) entries ended ≡ fault)

-- these are the first sound entries of a log from a point on
abbrev pub AreFirstSound : RestartPoint → List (List ℕ) → List LogEntry → Type 0
AreFirstSound point files taken = (entries : List LogEntry) (ended : Option (Place × NodeFault))
    → AreEntriesReadFrom point.place point.checksum files entries ended → IsFront taken (sound_entries (start_at point) entries)
