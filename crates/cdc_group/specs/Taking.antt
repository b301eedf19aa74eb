-- What a grouper answers, over all events that it may have taken.
use Rattle.std.specs.Prelude.{◌≡◌, ℕ, Bool, List, [], ◌∷◌, ◌++◌, Option, Some, None, Result, Ok, Err}
use Rattle.std.specs.Option.{option_map, option_to_list}
use Rattle.cdc_base.specs.declared.memory.Memory.{Memory as NoMemory}
use Rattle.cdc_base.specs.declared.place.Place.{Place}
use Rattle.cdc_event.specs.declared.event.Event.{Event}
use Rattle.cdc_event.specs.File.{IsWhole}
use Rattle.cdc_model.specs.declared.entry.EntryKind.{EntryKind}
use Rattle.cdc_model.specs.declared.fault.GroupFault.{GroupFault}
use Rattle.cdc_model.specs.Records.{LogEntry}
use Rattle.cdc_model.specs.Row.{IsRow}
use Rattle.cdc_model.specs.Sign.{SignedEvent, sign_of}
use Rattle.cdc_model.specs.Group.{Fits}
use Rattle.cdc_model.specs.Entries.{ReadsTo, CeasesToFit}
use Rattle.cdc_group.specs.declared.error.GroupError.{GroupError}
use Rattle.cdc_group.specs.declared.error.GroupError.TheVariants.{Fault, Memory}
use Rattle.cdc_group.specs.Grouping.{Grouping, Goes, Stopped, fault_at, gone_on, entry_ended}

-- an event of a file as it is taken: its place and the one behind it, the checksum setting behind it, its seconds, its sign
abbrev pub taken_event : Place → Place → ℕ → Event → SignedEvent
taken_event at end checksum event =
    record { at = at.at; end = end.at; checksum = checksum; seconds = event.header.seconds; sign = sign_of event }

-- the entry that says this and stands there
abbrev pub placed_entry : Place → Place → ℕ → EntryKind → LogEntry
placed_entry at end checksum kind = record { kind = kind; at = at; end = end; checksum = checksum }

-- what is answered where an event fits: the entry that it ends, or none, or that there is too little memory
abbrev pub placed_result : Place → Place → ℕ → Result (Option EntryKind) NoMemory → Result (Option LogEntry) GroupError
placed_result at end checksum (Ok kind) = Ok (option_map (placed_entry at end checksum) kind)
placed_result at end checksum (Err wanted) = Err Memory

-- a grouper may have taken these events of a file and have given these entries: they are what the events come to, and the unfinished
-- item at their end has come so far; or an event among them is the first with which they cease to fit
abbrev pub HasGrouped : Grouping → ℕ → List SignedEvent → List LogEntry → Type 0
HasGrouped (Goes progress) file taken given = ReadsTo file taken given progress
HasGrouped (Stopped fault) file taken given = (misplaced : SignedEvent) × CeasesToFit file taken given misplaced fault

-- a fault that is answered at an event: the event is the first with which the events cease to fit; or it is the fault before
abbrev pub FaultStands : Grouping → ℕ → List SignedEvent → List LogEntry → SignedEvent → GroupFault → Type 0
FaultStands (Goes progress) file taken given event fault = CeasesToFit file (taken ++ event ∷ []) given event fault
FaultStands (Stopped before) file taken given event fault = fault ≡ before

-- what is answered to an event, to a grouper that has taken these events and has given these entries
abbrev pub Groups : ℕ → List SignedEvent → List LogEntry → SignedEvent → Grouping → Grouping → Result (Option LogEntry) GroupError → Type 0
Groups file taken given event old new (Ok entry) =
    HasGrouped new file (taken ++ event ∷ []) (given ++ option_to_list entry) × Fits file (taken ++ event ∷ [])
Groups file taken given event old new (Err (Fault fault)) =
    HasGrouped new file (taken ++ event ∷ []) given × FaultStands old file taken given event fault
Groups file taken given event old new (Err Memory) = HasGrouped new file taken given

-- the same by the table: the fault that it has, or where the event leads and the entry that it ends
abbrev pub TakesEvent : ℕ → SignedEvent → Grouping → Grouping → Result (Option LogEntry) GroupError → Type 0
TakesEvent file event old new (Ok entry) =
    (fault_at old event.sign ≡ None) × (new ≡ gone_on old event.sign) × (entry ≡ entry_ended file old event)
TakesEvent file event old new (Err (Fault fault)) = (fault_at old event.sign ≡ Some fault) × (new ≡ Stopped fault)
TakesEvent file event old new (Err Memory) = (fault_at old event.sign ≡ None) × (new ≡ old)

-- law: a whole event of a file is one of its type, of at most 2^27 bytes
abbrev pub WholeEventsAreTaken : Type 0
WholeEventsAreTaken = (first : Bool) (checksum : ℕ) (bytes : List ℕ) (event : Event)
    → IsWhole first checksum bytes event → IsRow (event.header.kind, event.body)
