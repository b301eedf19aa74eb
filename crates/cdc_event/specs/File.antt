-- The events of a log file, one behind another, and what stands behind the last of them.
use Rattle.std.specs.Prelude.{◌≡◌, ◌≢◌, ◌<◌, ◌≤◌, ◌⊎◌, ℕ, zero, suc, ◌+◌, ◌^◌, ◌==◌, ◌&&◌, not, Bool, true, false, List, [], ◌∷◌, ◌++◌, length, take, slice_index, Option, Some, None}
use Rattle.cdc_event.specs.declared.header.Header.{Header}
use Rattle.cdc_event.specs.declared.body.Body.{Body}
use Rattle.cdc_event.specs.declared.body.Body.TheVariants.{Format, Query, Rotate, RowsQuery, TableMap, Rows, XaPrepare, Timestamp, Skipped}
use Rattle.cdc_event.specs.declared.body.Body.TheVariants.{Xid as XidEvent}
use Rattle.cdc_event.specs.declared.event.Event.{Event}
use Rattle.cdc_event.specs.declared.fault.EventFault.{EventFault}
use Rattle.cdc_event.specs.declared.fault.EventFault.TheVariants.{BadFormat}
use Rattle.cdc_event.specs.declared.fault.FileFault.{FileFault}
use Rattle.cdc_event.specs.declared.fault.FileFault.TheVariants.{BadMagic, Event as EventIsFaulty}
use Rattle.cdc_event.specs.Event.{magic, header_bytes, FitsHeader, Encodes}
use Rattle.cdc_event.specs.Length.{HasGoodLength, HasLengthFault, kept_header, kept_bytes}
use Rattle.cdc_event.specs.Reading.{HasKnownAlgorithm, HasFault}

-- an event where it stands in a file: its first byte's place, the place behind it, and the checksum setting behind it
pub record PlacedEvent : Type 0 where
  pub at : ℕ
  pub end : ℕ
  pub event : Event
  pub checksum : ℕ

-- these bytes begin with this header, and more follows it
pub record BeginsWith (bytes : List ℕ) (header : Header) (more : List ℕ) : Type 0 where
  pub fits : FitsHeader header
  pub small : header.length < 2 ^ 32
  pub spelled : bytes ≡ header_bytes header ++ more

-- the setting behind an event: a format event names it, and every other leaves it
abbrev pub setting_behind : ℕ → Body → ℕ
setting_behind before (Format text created lengths checksum tail) = checksum
setting_behind before (Query thread seconds error status db text) = before
setting_behind before (Rotate position name) = before
setting_behind before (XidEvent number) = before
setting_behind before (RowsQuery size text) = before
setting_behind before (TableMap table flags db name rest) = before
setting_behind before (Rows bytes) = before
setting_behind before (XaPrepare one_phase xid) = before
setting_behind before (Timestamp class value) = before
setting_behind before (Skipped bytes) = before

-- a file's first event has another type than a format event's
abbrev pub is_misplaced : Bool → ℕ → Bool
is_misplaced first kind = first && not (kind == 15)

-- these bytes are one whole event without fault, under a setting; it is spelled by what is left of them without the checksum
pub record IsWhole (first : Bool) (checksum : ℕ) (bytes : List ℕ) (event : Event) : Type 0 where
  pub header : Header
  pub body : List ℕ
  pub begins : BeginsWith bytes header body
  pub counted : header.length ≡ length bytes
  pub good : HasGoodLength checksum header
  pub placed : is_misplaced first header.kind ≡ false
  pub known : HasKnownAlgorithm event.body
  pub spelled : Encodes event (header_bytes (kept_header checksum header) ++ kept_bytes checksum header.kind body)

-- what is wrong with a whole event
abbrev pub HasWholeFault : Bool → ℕ → Header → List ℕ → EventFault → Type 0
HasWholeFault first checksum header body fault =
    ((is_misplaced first header.kind ≡ true) × (fault ≡ BadFormat))
    ⊎ ((is_misplaced first header.kind ≡ false) × HasFault header.kind (kept_bytes checksum header.kind body) fault)

-- what is wrong with the event that begins here: its length, as soon as its header is there; all else once it is whole
pub data IsFaulty (first : Bool) (checksum : ℕ) (bytes : List ℕ) (fault : EventFault) : Type 0 where
  by_length : (header : Header) (more : List ℕ) → BeginsWith bytes header more → HasLengthFault checksum header fault
      → IsFaulty first checksum bytes fault
  by_body : (header : Header) (body rest : List ℕ) → BeginsWith bytes header (body ++ rest) → HasGoodLength checksum header
      → header.length ≡ 19 + length body → HasWholeFault first checksum header body fault → IsFaulty first checksum bytes fault

-- the event that begins here isn't whole, and nothing is wrong with what is there of it
pub data IsUnfinished (checksum : ℕ) (bytes : List ℕ) : Type 0 where
  in_header : length bytes < 19 → IsUnfinished checksum bytes
  in_body : (header : Header) (more : List ℕ) → BeginsWith bytes header more → HasGoodLength checksum header
      → length bytes < header.length → IsUnfinished checksum bytes

-- behind the last event: a fault at this place, or less than an event
abbrev pub IsEnd : Bool → ℕ → ℕ → List ℕ → Option (ℕ × FileFault) → Type 0
IsEnd first at checksum bytes None = IsUnfinished checksum bytes
IsEnd first at checksum bytes (Some (place, BadMagic)) = ⊥
IsEnd first at checksum bytes (Some (place, EventIsFaulty fault)) = (place ≡ at) × IsFaulty first checksum bytes fault

-- from this place on the bytes are these events, one behind another, each under the setting behind the one before it; and then the end
abbrev pub AreEvents : Bool → ℕ → ℕ → List ℕ → List PlacedEvent → Option (ℕ × FileFault) → Type 0
AreEvents first at checksum bytes [] fault = IsEnd first at checksum bytes fault
AreEvents first at checksum bytes (placed ∷ events) fault =
    (piece rest : List ℕ) × (bytes ≡ piece ++ rest) × IsWhole first checksum piece placed.event
    × (placed.at ≡ at) × (placed.end ≡ at + length piece) × (placed.checksum ≡ setting_behind checksum placed.event.body)
    × AreEvents false placed.end placed.checksum rest events fault

-- the events of a file and its fault: none of either before four bytes are there; four other bytes than the magic are a fault;
-- behind the magic the first event is a format event
abbrev pub AreFileEvents : List ℕ → List PlacedEvent → Option (ℕ × FileFault) → Type 0
AreFileEvents bytes events fault =
    ((length bytes < 4) × (events ≡ []) × (fault ≡ None))
    ⊎ ((4 ≤ length bytes) × (take 4 bytes ≢ magic) × (events ≡ []) × (fault ≡ Some (0, BadMagic)))
    ⊎ ((rest : List ℕ) × (bytes ≡ magic ++ rest) × AreEvents true 4 0 rest events fault)

-- the same where reading begins at a place: byte 0 is the file's start, under whatever setting; any other place
-- counts as the end of an event
abbrev pub AreEventsFrom : ℕ → ℕ → List ℕ → List PlacedEvent → Option (ℕ × FileFault) → Type 0
AreEventsFrom zero checksum bytes events fault = AreFileEvents bytes events fault
AreEventsFrom (suc at) checksum bytes events fault = AreEvents false (suc at) checksum bytes events fault

-- law: bytes are read in one way
abbrev pub FilesHaveOneReading : Type 0
FilesHaveOneReading =
    (at checksum : ℕ) (bytes : List ℕ) (events others : List PlacedEvent) (fault other : Option (ℕ × FileFault))
    → AreEventsFrom at checksum bytes events fault → AreEventsFrom at checksum bytes others other
    → (events ≡ others) × (fault ≡ other)

-- law: all bytes are read
abbrev pub EachIsRead : Type 0
EachIsRead =
    (at checksum : ℕ) (bytes : List ℕ) → ((i : ℕ) → slice_index bytes i < 256)
    → (events : List PlacedEvent) × (fault : Option (ℕ × FileFault)) × AreEventsFrom at checksum bytes events fault

-- the events of more bytes begin with those of fewer, and a fault stays
pub record LengthensFile (events more : List PlacedEvent) (fault later : Option (ℕ × FileFault)) : Type 0 where
  pub new : List PlacedEvent
  pub goes_on : more ≡ events ++ new
  pub stays : fault ≢ None → (new ≡ []) × (later ≡ fault)

-- law: a file that has grown keeps its events, and its fault where it had one
abbrev pub GrownFileContinues : Type 0
GrownFileContinues =
    (at checksum : ℕ) (bytes more : List ℕ) (events longer : List PlacedEvent) (fault later : Option (ℕ × FileFault))
    → AreEventsFrom at checksum bytes events fault → AreEventsFrom at checksum (bytes ++ more) longer later
    → LengthensFile events longer fault later

-- law: what is read from the end of an event on are the events behind it, and the same fault
abbrev pub RestIsRead : Type 0
RestIsRead =
    (at checksum : ℕ) (bytes : List ℕ) (before behind : List PlacedEvent) (placed : PlacedEvent) (fault : Option (ℕ × FileFault))
    → AreEventsFrom at checksum bytes (before ++ placed ∷ behind) fault
    → (front rest : List ℕ) × (bytes ≡ front ++ rest) × (at + length front ≡ placed.end)
    × AreEvents false placed.end placed.checksum rest behind fault
