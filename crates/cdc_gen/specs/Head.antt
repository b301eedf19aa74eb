-- The head of each log.
use Rattle.std.specs.Prelude.{List, ℕ, [], ◌∷◌, ◌++◌, codes, replicate}
use Rattle.cdc_event.specs.declared.body.Body.TheVariants.{Format}
use Rattle.cdc_event.specs.declared.event.Event.{Event}
use Rattle.cdc_event.specs.Event.{magic, event_bytes}

-- the length of each type's post-header, types 1 to 38
abbrev pub post_header_lengths : List ℕ
post_header_lengths = 56 ∷ 13 ∷ 0 ∷ 8 ∷ 0 ∷ 18 ∷ 0 ∷ 4 ∷ 4 ∷ 4 ∷ 4 ∷ 18 ∷ 0 ∷ 0 ∷ 95 ∷ 0 ∷ 4 ∷ 26 ∷ 8 ∷ 0 ∷ 0 ∷ 0 ∷ 8 ∷ 8 ∷ 8 ∷ 2 ∷ 0 ∷ 0 ∷ 0 ∷ 10 ∷ 10 ∷ 10 ∷ 42 ∷ 42 ∷ 0 ∷ 18 ∷ 52 ∷ 0 ∷ []

-- a format event of version 4 without checksums, of 119 bytes, by server 1
abbrev pub format_event : Event
format_event = record {
  header = record { seconds = 0; kind = 15; server = 1; length = 119; next = 123; flags = 0 };
  body = Format (codes "5.7.0-cdc" ++ replicate 41 0) 0 post_header_lengths 0 0;
}

-- the 123 bytes that begin a log: the magic and a format event, as an output file begins
unfoldable pub log_head : List ℕ
log_head = magic ++ event_bytes format_event
