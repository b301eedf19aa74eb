-- The events of a published file, one behind another by their lengths alone, and where they end.
use Rattle.std.specs.Prelude.{ℕ, zero, suc, ◌+◌, ◌-◌, ◌==◌, ◌&&◌, ◌||◌, Bool, true, false, List, [], ◌∷◌, length, take, drop, nat_le, if◌then◌else◌}
use Rattle.std.specs.Str.{bytes_eq}
use Rattle.cdc_event.specs.Number.{number_of}
use Rattle.cdc_event.specs.Event.{magic}

-- the length that an event's header tells
abbrev pub told_length : List ℕ → ℕ
told_length bytes = number_of (take 4 (drop 9 bytes))

-- an event begins here: its length is that of a header at least, and so many bytes are there
abbrev pub begins_event : List ℕ → Bool
begins_event bytes = nat_le 19 (told_length bytes) && nat_le (told_length bytes) (length bytes)

-- these bytes, behind so many that still belong to an event, are whole events to their end
unfoldable pub is_chain_behind : ℕ → List ℕ → Bool
is_chain_behind zero [] = true
is_chain_behind (suc more) [] = false
is_chain_behind (suc more) (byte ∷ bytes) = is_chain_behind more bytes
is_chain_behind zero (byte ∷ bytes) = begins_event (byte ∷ bytes) && is_chain_behind (told_length (byte ∷ bytes) - 1) bytes

-- the events of these bytes, behind so many that still belong to an event, up to the first that isn't whole
unfoldable pub events_behind : ℕ → List ℕ → List (List ℕ)
events_behind zero [] = []
events_behind (suc more) [] = []
events_behind (suc more) (byte ∷ bytes) = events_behind more bytes
events_behind zero (byte ∷ bytes) =
    if begins_event (byte ∷ bytes) then take (told_length (byte ∷ bytes)) (byte ∷ bytes) ∷ events_behind (told_length (byte ∷ bytes) - 1) bytes
    else []

-- these bytes are whole events to their end
abbrev pub is_chain : List ℕ → Bool
is_chain bytes = is_chain_behind 0 bytes

-- the events at the front of these bytes
abbrev pub chained_events : List ℕ → List (List ℕ)
chained_events bytes = events_behind 0 bytes

-- a place is one of the ends of events that stand one behind another from a place on
abbrev pub ends_at : ℕ → ℕ → List (List ℕ) → Bool
ends_at at place [] = false
ends_at at place (event ∷ events) = (place + length event == at) || ends_at at (place + length event) events

-- a file is the magic and whole events to its end
abbrev pub is_whole_file : List ℕ → Bool
is_whole_file bytes = bytes_eq (take 4 bytes) magic && is_chain (drop 4 bytes)

-- a place is the one behind the magic, or the end of an event of a file
abbrev pub is_boundary_of : List ℕ → ℕ → Bool
is_boundary_of bytes at = (at == 4) || ends_at at 4 (chained_events (drop 4 bytes))
