-- What is true of all events and their bytes.
use Rattle.std.specs.Prelude.{◌≡◌, ◌≢◌, ℕ, ◌-◌, ◌^◌, ◌<◌, ◌⊎◌, List, [], ◌++◌, length, slice_range, slice_index, Ok}
use Rattle.cdc_event.specs.declared.header.Header.{Header}
use Rattle.cdc_event.specs.declared.event.Event.{Event}
use Rattle.cdc_event.specs.declared.fault.EventFault.{EventFault}
use Rattle.cdc_event.specs.Number.{number_of}
use Rattle.cdc_event.specs.Event.{header_bytes, FitsHeader, Encodes}
use Rattle.cdc_event.specs.Reading.{HasKnownAlgorithm, IsNoBody, HasFault, event_of}

-- where an event's bytes are cut into a header and the rest, and nothing ends with a checksum, they are read as the event again
abbrev pub WrittenIsRead : Type 0
WrittenIsRead =
    (event : Event) (bytes rest : List ℕ) (header : Header) → Encodes event bytes → HasKnownAlgorithm event.body →
    FitsHeader header → header.length < 2 ^ 32 → bytes ≡ header_bytes header ++ rest → event_of 0 header rest ≡ Ok event

-- a byte list is at most one event
abbrev pub OneEvent : Type 0
OneEvent = (a b : Event) (bytes : List ℕ) → Encodes a bytes → Encodes b bytes → a ≡ b

-- an event has at most one byte list
abbrev pub OneByteList : Type 0
OneByteList = (event : Event) (bytes more : List ℕ) → Encodes event bytes → Encodes event more → bytes ≡ more

-- where an event's bytes begin another event's, nothing follows
abbrev pub NoFront : Type 0
NoFront = (a b : Event) (bytes rest : List ℕ) → Encodes a bytes → Encodes b (bytes ++ rest) → rest ≡ []

-- a body has at most one fault
abbrev pub OneFault : Type 0
OneFault = (kind : ℕ) (bytes : List ℕ) (a b : EventFault) → HasFault kind bytes a → HasFault kind bytes b → a ≡ b

-- what is wrong with a format event's body, field by field
abbrev pub IsBadFormat : List ℕ → Type 0
IsBadFormat bytes = (length bytes < 62) ⊎ (number_of (slice_range bytes 0 2) ≢ 4) ⊎ (slice_index bytes 56 ≢ 19) ⊎ (1 < slice_index bytes (length bytes - 5))

-- bytes are no body of a format event exactly where one of its fields is wrong
abbrev pub FormatByFields : Type 0
FormatByFields = (bytes : List ℕ) → ((i : ℕ) → slice_index bytes i < 256) → (IsNoBody 15 bytes → IsBadFormat bytes) × (IsBadFormat bytes → IsNoBody 15 bytes)
