-- What a dump sends: events of the published files, from a place of one of them on.
use Rattle.std.specs.Prelude.{ℕ, ◌+◌, Bool, nat_lt, List, [], ◌∷◌, ◌++◌, length, take, drop, map, if◌then◌else◌}
use Rattle.std.specs.List.{flat_map, list_all}
use Rattle.std.specs.Str.{bytes_eq}
use Rattle.cdc_event.specs.declared.event.Event.{Event}
use Rattle.cdc_event.specs.declared.body.Body.TheVariants.{Rotate}
use Rattle.cdc_event.specs.Event.{event_bytes}
use Rattle.cdc_model.specs.Output.{file_name}
use Rattle.cdc_index.specs.Chain.{chained_events, is_whole_file}
use Rattle.cdc_session.specs.Shelf.{PublishedFile}

-- the event that tells a client which file, and from which place on, the next events stand in; it stands in no file
abbrev pub artificial_rotate : ℕ → ℕ → Event
artificial_rotate number at = record {
  header = record { seconds = 0; kind = 4; server = 1; length = 27 + length (file_name number); next = 0; flags = 32 };
  body = Rotate at (file_name number);
}

-- its bytes
unfoldable pub rotate_to : ℕ → ℕ → List ℕ
rotate_to number at = event_bytes (artificial_rotate number at)

-- an event with 0 for the place behind it
abbrev pub without_place : List ℕ → List ℕ
without_place event = take 13 event ++ (0 ∷ 0 ∷ 0 ∷ 0 ∷ drop 17 event)

-- the events of a file from a place on
abbrev pub events_from : ℕ → List ℕ → List (List ℕ)
events_from at bytes = chained_events (drop at bytes)

-- a file's first event, where the place is behind it
abbrev pub first_event : ℕ → List ℕ → List (List ℕ)
first_event at bytes = if nat_lt 4 at then map without_place (take 1 (events_from 4 bytes)) else []

-- a file from a place on: which file it is, its first event where the place is behind it, and the events from the place on
abbrev pub file_part : ℕ → PublishedFile → List (List ℕ)
file_part at file = rotate_to file.number at ∷ (first_event at file.bytes ++ events_from at file.bytes)

-- a payload of a dump is an event behind a zero
abbrev pub as_payloads : List (List ℕ) → List (List ℕ)
as_payloads events = map (λ event. 0 ∷ event) events

-- the payloads of whole files
abbrev pub whole_payloads : List PublishedFile → List (List ℕ)
whole_payloads files = flat_map (λ (file : PublishedFile). as_payloads (file_part 4 file)) files

-- the payloads of a dump that begins at a place of a file, with the files behind it
abbrev pub dump_payloads : ℕ → PublishedFile → List PublishedFile → List (List ℕ)
dump_payloads at file files = as_payloads (file_part at file) ++ whole_payloads files

-- the files from the one of this name on; none where no file has it
abbrev pub named_files : List ℕ → List PublishedFile → List PublishedFile
named_files name [] = []
named_files name (file ∷ files) = if bytes_eq (file_name file.number) name then file ∷ files else named_files name files

-- the files that are asked for: an empty name means the first one
abbrev pub asked_files : List ℕ → List PublishedFile → List PublishedFile
asked_files [] files = files
asked_files (byte ∷ name) files = named_files (byte ∷ name) files

-- each file is the magic and whole events
abbrev pub are_whole : List PublishedFile → Bool
are_whole files = list_all (λ (file : PublishedFile). is_whole_file file.bytes) files
