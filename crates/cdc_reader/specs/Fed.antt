-- What is found in a file's bytes while they are fed: its entries, and the fault that ends them.
use Rattle.std.specs.Prelude.{◌≡◌, ℕ, List, [], ◌∷◌, ◌++◌, map, Option, Some, None}
use Rattle.cdc_base.specs.declared.place.Place.{Place}
use Rattle.cdc_event.specs.declared.fault.FileFault.{FileFault}
use Rattle.cdc_event.specs.File.{PlacedEvent, AreEventsFrom}
use Rattle.cdc_cutter.specs.Cutting.{Holds}
use Rattle.cdc_group.specs.Grouping.{Goes}
use Rattle.cdc_group.specs.declared.error.GroupError.{GroupError}
use Rattle.cdc_group.specs.declared.error.GroupError.TheVariants.{Fault as Misfit, Memory as Wanting}
use Rattle.cdc_model.specs.declared.fault.GroupFault.{GroupFault}
use Rattle.cdc_model.specs.declared.fault.NodeFault.{NodeFault}
use Rattle.cdc_model.specs.Records.{LogEntry}
use Rattle.cdc_model.specs.Sign.{signed}
use Rattle.cdc_model.specs.Group.{Progress}
use Rattle.cdc_model.specs.Entries.{ReadsTo, AreEntriesOfEvents}
use Rattle.cdc_reader.specs.declared.follower.Follower.{Follower}
use Rattle.cdc_reader.specs.declared.follower.Found.{Found}
use Rattle.cdc_reader.specs.declared.follower.Found.TheVariants.{Nothing, Entry, Need, Fault}

-- the entries of these bytes of file `file`, which stand from a byte on, under a setting there; and the fault that ends them
abbrev pub AreFedEntries : ℕ → ℕ → ℕ → List ℕ → List LogEntry → Option (Place × NodeFault) → Type 0
AreFedEntries file start checksum fed entries fault =
    (events : List PlacedEvent) × (ended : Option (ℕ × FileFault))
    × AreEventsFrom start checksum fed events ended × AreEntriesOfEvents file (map signed events) ended entries fault

-- a cutter and a grouper may have been fed these bytes of file `file`, from a byte on under a setting there, and have found these
-- entries: the cutter has given some events, which come to these entries and an unfinished item
pub record Follows (follower : Follower) (file start checksum : ℕ) (fed : List ℕ) (own : List LogEntry) : Type 0 where
  pub given : List PlacedEvent
  pub progress : Progress
  pub in_file : follower.cutter.file ≡ file
  pub cut : Holds follower.cutter start checksum fed given
  pub standing : follower.grouper ≡ Goes progress
  pub reads : ReadsTo file (map signed given) own progress

-- whatever more of the file is fed, its entries are these, and then this fault or none
abbrev pub EndsFile : ℕ → ℕ → ℕ → List ℕ → List LogEntry → Option (Place × NodeFault) → Type 0
EndsFile file start checksum fed own fault = (more : List ℕ) (entries : List LogEntry) (ended : Option (Place × NodeFault))
    → AreFedEntries file start checksum (fed ++ more) entries ended → (entries ≡ own) × (ended ≡ fault)

-- what an event finds: the entry that it ends, or nothing
abbrev pub found_of : Option LogEntry → Found
found_of None = Nothing
found_of (Some entry) = Entry entry

-- the fault for which an event is refused; none where there was no memory for it
abbrev pub refusal_of : GroupError → Option GroupFault
refusal_of (Misfit fault) = Some fault
refusal_of Wanting = None

-- an event was passed
abbrev pub IsPassedEvent : Found → Type 0
IsPassedEvent Nothing = Unit {0}
IsPassedEvent (Entry entry) = Unit {0}
IsPassedEvent Need = ⊥
IsPassedEvent (Fault place fault) = ⊥

-- what is found next in the bytes that were fed: nothing yet, by an event that ends no entry; an entry; that they have no more events; or
-- the fault of the file
abbrev pub FindsNext : ℕ → ℕ → ℕ → List ℕ → List LogEntry → Follower → Found → Type 0
FindsNext file start checksum fed own new Nothing = Follows new file start checksum fed own
FindsNext file start checksum fed own new (Entry entry) = Follows new file start checksum fed (own ++ entry ∷ [])
FindsNext file start checksum fed own new Need = Follows new file start checksum fed own × AreFedEntries file start checksum fed own None
FindsNext file start checksum fed own new (Fault place fault) = EndsFile file start checksum fed own (Some (place, fault))
