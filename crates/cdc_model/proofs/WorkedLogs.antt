-- Events, entries and faults of files, from their bytes, whose answers were worked out by hand.
use Rattle.std.proofs.Common.{◌≢◌, inl, inr, ℕ, true, false, List, [], ◌∷◌, ◌++◌, refl, map, Some, None, Option, replicate, take, lit≤}
use Rattle.std.specs.Prelude.{codes}
use Rattle.cdc_event.specs.declared.header.Header.{Header}
use Rattle.cdc_event.specs.declared.body.Body.TheVariants.{Format, Timestamp}
use Rattle.cdc_event.specs.declared.event.Event.{Event}
use Rattle.cdc_event.specs.declared.fault.EventFault.TheVariants.{ShortLength, BadFormat}
use Rattle.cdc_event.specs.declared.fault.FileFault.{FileFault}
use Rattle.cdc_event.specs.declared.fault.FileFault.TheVariants.{BadMagic, Event as EventIsFaulty}
use Rattle.cdc_event.specs.Number.{low_first}
use Rattle.cdc_event.specs.Event.{magic, header_bytes, body_bytes, event_bytes, FitsBody, FitsHeader, Encodes}
use Rattle.cdc_event.specs.File.{PlacedEvent, BeginsWith, IsWhole, in_header, by_length, by_body, AreEvents, AreFileEvents}
use Rattle.cdc_base.specs.declared.place.Place.{Place}
use Rattle.cdc_model.specs.declared.entry.EntryKind.TheVariants.{Beat}
use Rattle.cdc_model.specs.declared.fault.NodeFault.{NodeFault}
use Rattle.cdc_model.specs.declared.fault.NodeFault.TheVariants.{File}
use Rattle.cdc_model.specs.Records.{LogEntry}
use Rattle.cdc_model.specs.Output.{post_headers}
use Rattle.cdc_model.specs.Sign.{signed}
use Rattle.cdc_model.specs.Group.{Out}
use Rattle.cdc_model.specs.Entries.{ReadsTo, AreFileEntries, AreLogEntries}

-- ---- a format event without checksums at place 4, and a beat of timestamp 10 behind it

abbrev format_header : Header
format_header = record { seconds = 0; kind = 15; server = 1; length = 119; next = 123; flags = 0 }

abbrev format : Event
format = record { header = format_header; body = Format (codes "5.7.0-cdc" ++ replicate 41 0) 0 post_headers 0 0 }

abbrev beat_header : Header
beat_header = record { seconds = 5; kind = 200; server = 9; length = 28; next = 151; flags = 0 }

abbrev beat : Event
beat = record { header = beat_header; body = Timestamp 2 10 }

abbrev placed_format : PlacedEvent
placed_format = record { at = 4; end = 123; event = format; checksum = 0 }

abbrev placed_beat : PlacedEvent
placed_beat = record { at = 123; end = 151; event = beat; checksum = 0 }

fits_format : FitsHeader format_header
fits_format = record { seconds = lit≤ tt; kind = lit≤ tt; server = lit≤ tt; next = lit≤ tt; flags = lit≤ tt }

fits_beat : FitsHeader beat_header
fits_beat = record { seconds = lit≤ tt; kind = lit≤ tt; server = lit≤ tt; next = lit≤ tt; flags = lit≤ tt }

encoded_format : Encodes format (event_bytes format)
unfolding low_first header_bytes body_bytes post_headers FitsBody
encoded_format = record {
  fits = record { header = fits_format; body = (refl, lit≤ tt, lit≤ tt, lit≤ tt); kind = refl; whole = refl; most = lit≤ tt };
  spelled = refl;
}

encoded_beat : Encodes beat (event_bytes beat)
unfolding low_first header_bytes body_bytes FitsBody
encoded_beat = record {
  fits = record { header = fits_beat; body = (lit≤ tt, lit≤ tt); kind = refl; whole = refl; most = lit≤ tt };
  spelled = refl;
}

whole_format : IsWhole true 0 (event_bytes format) format
unfolding low_first header_bytes body_bytes post_headers
whole_format = record {
  header = format_header;
  body = body_bytes format.body;
  begins = record { fits = fits_format; small = lit≤ tt; spelled = refl };
  counted = refl;
  good = record { least = lit≤ tt; most = lit≤ tt };
  placed = refl;
  known = lit≤ tt;
  spelled = encoded_format;
}

whole_beat : IsWhole false 0 (event_bytes beat) beat
unfolding low_first header_bytes body_bytes
whole_beat = record {
  header = beat_header;
  body = body_bytes beat.body;
  begins = record { fits = fits_beat; small = lit≤ tt; spelled = refl };
  counted = refl;
  good = record { least = lit≤ tt; most = lit≤ tt };
  placed = refl;
  known = tt;
  spelled = encoded_beat;
}

-- a file that goes on behind them
behind_format : (rest : List ℕ) (events : List PlacedEvent) (fault : Option (ℕ × FileFault)) → AreEvents false 123 0 rest events fault
    → AreFileEvents (magic ++ (event_bytes format ++ rest)) (placed_format ∷ events) fault
unfolding low_first header_bytes body_bytes post_headers
behind_format rest events fault read = inr (inr (event_bytes format ++ rest, refl, (event_bytes format, rest, refl, whole_format, refl, refl, refl, read)))

behind_beat : (rest : List ℕ) (events : List PlacedEvent) (fault : Option (ℕ × FileFault)) → AreEvents false 151 0 rest events fault
    → AreEvents false 123 0 (event_bytes beat ++ rest) (placed_beat ∷ events) fault
unfolding low_first header_bytes body_bytes
behind_beat rest events fault read = (event_bytes beat, rest, refl, whole_beat, refl, refl, refl, read)

abbrev two_events : List ℕ → List ℕ
two_events rest = magic ++ (event_bytes format ++ (event_bytes beat ++ rest))

abbrev both : List PlacedEvent
both = placed_format ∷ placed_beat ∷ []

read_to_the_end : AreFileEvents (two_events []) both None
read_to_the_end = behind_format (event_bytes beat ++ []) (placed_beat ∷ []) None (behind_beat [] [] None (in_header (lit≤ tt)))

-- a header of 19 bytes with the length 18 is a fault at its first byte
abbrev short_header : Header
short_header = record { seconds = 5; kind = 2; server = 9; length = 18; next = 169; flags = 0 }

begins_short : BeginsWith (header_bytes short_header) short_header []
unfolding low_first header_bytes
begins_short = record { fits = record { seconds = lit≤ tt; kind = lit≤ tt; server = lit≤ tt; next = lit≤ tt; flags = lit≤ tt }; small = lit≤ tt; spelled = refl }

short_event : AreFileEvents (two_events (header_bytes short_header)) both (Some (151, EventIsFaulty (ShortLength 18)))
short_event =
    behind_format (event_bytes beat ++ header_bytes short_header) (placed_beat ∷ []) (Some (151, EventIsFaulty (ShortLength 18)))
    (behind_beat (header_bytes short_header) [] (Some (151, EventIsFaulty (ShortLength 18))) (refl, by_length short_header [] begins_short (refl, lit≤ tt)))

-- the first 18 of these bytes are none
short_event_in_part : AreFileEvents (two_events (take 18 (header_bytes short_header))) both None
unfolding low_first header_bytes
short_event_in_part =
    behind_format (event_bytes beat ++ take 18 (header_bytes short_header)) (placed_beat ∷ []) None
    (behind_beat (take 18 (header_bytes short_header)) [] None (in_header (lit≤ tt)))

-- a file's first event is a format event
beat_first : AreFileEvents (magic ++ event_bytes beat) [] (Some (4, EventIsFaulty BadFormat))
unfolding low_first header_bytes body_bytes
beat_first =
    inr (inr (
      event_bytes beat,
      refl,
      (
        refl,
        by_body beat_header (body_bytes beat.body) [] (record { fits = fits_beat; small = lit≤ tt; spelled = refl })
            (record { least = lit≤ tt; most = lit≤ tt }) refl (inl (refl, refl)),
      ),
    ))

-- ---- the same with checksums: the format event names algorithm 1, and the beat behind it ends with four bytes more

abbrev format_1 : Event
format_1 = record { header = format_header; body = Format (codes "5.7.0-cdc" ++ replicate 41 0) 0 post_headers 1 0 }

abbrev long_header : Header
long_header = record { seconds = 5; kind = 200; server = 9; length = 32; next = 155; flags = 0 }

abbrev beat_1 : Event
beat_1 = record { header = record { seconds = 5; kind = 200; server = 9; length = 28; next = 155; flags = 0 }; body = Timestamp 2 10 }

abbrev long_body : List ℕ
long_body = body_bytes beat_1.body ++ (1 ∷ 2 ∷ 3 ∷ 4 ∷ [])

abbrev long_beat : List ℕ
long_beat = header_bytes long_header ++ long_body

encoded_format_1 : Encodes format_1 (event_bytes format_1)
unfolding low_first header_bytes body_bytes post_headers FitsBody
encoded_format_1 = record {
  fits = record { header = fits_format; body = (refl, lit≤ tt, lit≤ tt, lit≤ tt); kind = refl; whole = refl; most = lit≤ tt };
  spelled = refl;
}

encoded_beat_1 : Encodes beat_1 (event_bytes beat_1)
unfolding low_first header_bytes body_bytes FitsBody
encoded_beat_1 = record {
  fits = record {
    header = record { seconds = lit≤ tt; kind = lit≤ tt; server = lit≤ tt; next = lit≤ tt; flags = lit≤ tt };
    body = (lit≤ tt, lit≤ tt);
    kind = refl;
    whole = refl;
    most = lit≤ tt;
  };
  spelled = refl;
}

whole_format_1 : IsWhole true 0 (event_bytes format_1) format_1
unfolding low_first header_bytes body_bytes post_headers
whole_format_1 = record {
  header = format_header;
  body = body_bytes format_1.body;
  begins = record { fits = fits_format; small = lit≤ tt; spelled = refl };
  counted = refl;
  good = record { least = lit≤ tt; most = lit≤ tt };
  placed = refl;
  known = lit≤ tt;
  spelled = encoded_format_1;
}

whole_beat_1 : IsWhole false 1 long_beat beat_1
unfolding low_first header_bytes body_bytes
whole_beat_1 = record {
  header = long_header;
  body = long_body;
  begins = record {
    fits = record { seconds = lit≤ tt; kind = lit≤ tt; server = lit≤ tt; next = lit≤ tt; flags = lit≤ tt };
    small = lit≤ tt;
    spelled = refl;
  };
  counted = refl;
  good = record { least = lit≤ tt; most = lit≤ tt };
  placed = refl;
  known = tt;
  spelled = encoded_beat_1;
}

-- the setting holds behind the beat too
read_with_checksums : AreFileEvents (magic ++ (event_bytes format_1 ++ (long_beat ++ [])))
    (record { at = 4; end = 123; event = format_1; checksum = 1 } ∷ record { at = 123; end = 155; event = beat_1; checksum = 1 } ∷ []) None
unfolding low_first header_bytes body_bytes post_headers
read_with_checksums =
    inr (inr (
      event_bytes format_1 ++ (long_beat ++ []),
      refl,
      (
        event_bytes format_1,
        long_beat ++ [],
        refl,
        whole_format_1,
        refl,
        refl,
        refl,
        (long_beat, [], refl, whole_beat_1, refl, refl, refl, in_header (lit≤ tt)),
      ),
    ))

-- ---- entries of files and logs

abbrev beat_entry : ℕ → LogEntry
beat_entry file = record { kind = Beat 10; at = record { file = file; at = 123 }; end = record { file = file; at = 151 }; checksum = 0 }

-- the format event gives no entry, and the beat gives one, at its event's place
both_read : (file : ℕ) → ReadsTo file (map signed both) (beat_entry file ∷ []) Out
both_read file = record {
  whole = map signed both;
  part = [];
  events_in_order = refl;
  reads = record {
    items = (signed placed_format ∷ [], None) ∷ (signed placed_beat ∷ [], Some (beat_entry file)) ∷ [];
    each = (inl (signed placed_format, refl, refl), (([], signed placed_beat, refl, (refl, refl), record { at = refl; end = refl; checksum = refl }), tt));
    events_in_order = refl;
    entries_in_order = refl;
  };
  reaches = refl;
}

beat_read : (file : ℕ) → AreFileEntries file (two_events []) (beat_entry file ∷ []) None
beat_read file = (both, None, read_to_the_end, inl (Out, both_read file, refl))

abbrev short_fault : ℕ → Option (Place × NodeFault)
short_fault file = Some (record { file = file; at = 151 }, File (EventIsFaulty (ShortLength 18)))

beat_and_fault : (file : ℕ) → AreFileEntries file (two_events (header_bytes short_header)) (beat_entry file ∷ []) (short_fault file)
beat_and_fault file = (both, Some (151, EventIsFaulty (ShortLength 18)), short_event, inl (Out, both_read file, refl))

some_is_not_none : (fault : Place × NodeFault) → Some fault ≢ None
some_is_not_none fault e = cc

nothing_read : ReadsTo 1 [] [] Out
nothing_read = record {
  whole = [];
  part = [];
  events_in_order = refl;
  reads = record { items = []; each = tt; events_in_order = refl; entries_in_order = refl };
  reaches = refl;
}

other : take 4 (0 ∷ 98 ∷ 105 ∷ 110 ∷ []) ≢ magic
other e = cc

-- files are numbered from 1, and their entries stand one behind another; a fault ends them, and no later file is read
two_files : AreLogEntries (two_events [] ∷ two_events [] ∷ []) (beat_entry 1 ∷ beat_entry 2 ∷ []) None
two_files = inr (beat_entry 1 ∷ [], beat_entry 2 ∷ [], refl, beat_read 1, inr (beat_entry 2 ∷ [], [], refl, beat_read 2, (refl, refl)))

fault_in_the_second_file : AreLogEntries (two_events [] ∷ two_events (header_bytes short_header) ∷ two_events [] ∷ []) (beat_entry 1 ∷ beat_entry 2 ∷ []) (short_fault 2)
fault_in_the_second_file =
    inr (
      beat_entry 1 ∷ [],
      beat_entry 2 ∷ [],
      refl,
      beat_read 1,
      inl (some_is_not_none (record { file = 2; at = 151 }, File (EventIsFaulty (ShortLength 18))), beat_and_fault 2),
    )

-- fewer than four bytes are nothing, and four others than the magic a fault at byte 0
three_bytes : AreLogEntries ((254 ∷ 98 ∷ 105 ∷ []) ∷ []) [] None
three_bytes = inr ([], [], refl, ([], None, inl (lit≤ tt, refl, refl), inl (Out, nothing_read, refl)), (refl, refl))

four_other_bytes : AreLogEntries ((0 ∷ 98 ∷ 105 ∷ 110 ∷ []) ∷ []) [] (Some (record { file = 1; at = 0 }, File BadMagic))
four_other_bytes = inl (
  some_is_not_none (record { file = 1; at = 0 }, File BadMagic),
  ([], Some (0, BadMagic), inr (inl (lit≤ tt, other, refl, refl)), inl (Out, nothing_read, refl)),
)
