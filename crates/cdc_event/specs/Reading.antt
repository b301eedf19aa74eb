-- What an event's bytes hold, and what is wrong with them.
use Rattle.std.specs.Prelude.{◌≡◌, ◌≢◌, ℕ, ◌+◌, ◌-◌, ◌≤◌, ◌==◌, nat_le, nat_lt, Bool, IsTrue, if◌then◌else◌, List, length, slice_range, slice_index, Option, Some, None, Result, Ok, Err, IsOk}
use Rattle.cdc_event.specs.declared.header.Header.{Header}
use Rattle.cdc_event.specs.declared.body.Body.{Body}
use Rattle.cdc_event.specs.declared.body.Body.TheVariants.{Format, Query, Rotate, RowsQuery, TableMap, Rows, XaPrepare, Timestamp, Skipped}
use Rattle.cdc_event.specs.declared.body.Body.TheVariants.{Xid as XidEvent}
use Rattle.cdc_event.specs.declared.event.Event.{Event}
use Rattle.cdc_event.specs.declared.fault.EventFault.{EventFault}
use Rattle.cdc_event.specs.declared.fault.EventFault.TheVariants.{ShortLength, TooLong, BadBody, Compressed, BadFormat, Partial}
use Rattle.cdc_event.specs.declared.fault.ReadError.{ReadError}
use Rattle.cdc_event.specs.declared.fault.ReadError.TheVariants.{Fault, Memory}
use Rattle.cdc_event.specs.Number.{number_of}
use Rattle.cdc_event.specs.Length.{kept_header, kept_bytes}
use Rattle.cdc_event.specs.Event.{body_bytes, is_rows_kind, has_kind, FitsBody}

-- a format event names algorithm 0 or 1
abbrev pub HasKnownAlgorithm : Body → Type 0
HasKnownAlgorithm (Format text created lengths checksum tail) = checksum ≤ 1
HasKnownAlgorithm (Query thread seconds error status db text) = Unit {0}
HasKnownAlgorithm (Rotate position name) = Unit {0}
HasKnownAlgorithm (XidEvent number) = Unit {0}
HasKnownAlgorithm (RowsQuery size text) = Unit {0}
HasKnownAlgorithm (TableMap table flags db name rest) = Unit {0}
HasKnownAlgorithm (Rows bytes) = Unit {0}
HasKnownAlgorithm (XaPrepare one_phase xid) = Unit {0}
HasKnownAlgorithm (Timestamp class value) = Unit {0}
HasKnownAlgorithm (Skipped bytes) = Unit {0}

-- these bytes are this body of an event of this type
pub record IsBodyOf (kind : ℕ) (bytes : List ℕ) (body : Body) : Type 0 where
  pub fits : FitsBody body
  pub typed : IsTrue (has_kind body kind)
  pub algorithm : HasKnownAlgorithm body
  pub spelled : bytes ≡ body_bytes body

-- these bytes are no body of an event of this type
abbrev pub IsNoBody : ℕ → List ℕ → Type 0
IsNoBody kind bytes = (body : Body) → IsBodyOf kind bytes body → ⊥

-- what is wrong with a whole event of this type and body: at most one of these
abbrev pub HasFault : ℕ → List ℕ → EventFault → Type 0
HasFault kind bytes (ShortLength length) = ⊥
HasFault kind bytes (TooLong length) = ⊥
HasFault kind bytes (BadBody of) = (of ≡ kind) × (kind ≢ 15) × (kind ≢ 39) × (kind ≢ 40) × IsNoBody kind bytes
HasFault kind bytes Compressed = kind ≡ 40
HasFault kind bytes BadFormat = (kind ≡ 15) × IsNoBody kind bytes
HasFault kind bytes Partial = kind ≡ 39

-- what is read, where a test holds
unfoldable pub guard : Bool → Option Body → Option Body
guard test read = if test then read else None

-- type 15: text, creation time, lengths, algorithm and tail, each at its place
abbrev pub format_body_of : List ℕ → Body
format_body_of bytes = Format (slice_range bytes 2 52) (number_of (slice_range bytes 52 56)) (slice_range bytes 57 (length bytes - 5)) (slice_index bytes (length bytes - 5)) (number_of (slice_range bytes (length bytes - 4) (length bytes)))

-- at least 62 bytes, version 4, headers of 19 bytes, algorithm 0 or 1
unfoldable pub format_at : List ℕ → Option Body
format_at bytes =
    guard (nat_le 62 (length bytes))
    (guard (number_of (slice_range bytes 0 2) == 4)
    (guard (slice_index bytes 56 == 19)
    (guard (nat_le (slice_index bytes (length bytes - 5)) 1)
    (Some (format_body_of bytes)))))

-- type 2, by the lengths of its status variables and database
abbrev pub query_of : ℕ → ℕ → List ℕ → Body
query_of status db bytes = Query (number_of (slice_range bytes 0 4)) (number_of (slice_range bytes 4 8)) (number_of (slice_range bytes 9 11)) (slice_range bytes 13 (13 + status)) (slice_range bytes (13 + status) (13 + status + db)) (slice_range bytes (13 + status + db + 1) (length bytes))

-- with the byte behind both
abbrev pub query_with : ℕ → ℕ → List ℕ → Option Body
query_with status db bytes =
    guard (nat_lt (13 + status + db) (length bytes))
    (guard (slice_index bytes (13 + status + db) == 0)
    (Some (query_of status db bytes)))

-- type 2, by the lengths that its fixed fields tell
unfoldable pub query_at : List ℕ → Option Body
query_at bytes = guard (nat_le 13 (length bytes)) (query_with (number_of (slice_range bytes 11 13)) (slice_index bytes 8) bytes)

-- type 4
unfoldable pub rotate_at : List ℕ → Option Body
rotate_at bytes = guard (nat_le 8 (length bytes)) (Some (Rotate (number_of (slice_range bytes 0 8)) (slice_range bytes 8 (length bytes))))

-- type 16
unfoldable pub xid_at : List ℕ → Option Body
xid_at bytes = guard (length bytes == 8) (Some (XidEvent (number_of bytes)))

-- type 29
unfoldable pub rows_query_at : List ℕ → Option Body
rows_query_at bytes = guard (nat_le 1 (length bytes)) (Some (RowsQuery (slice_index bytes 0) (slice_range bytes 1 (length bytes))))

-- type 19, by the lengths of its two names
abbrev pub table_map_of : ℕ → ℕ → List ℕ → Body
table_map_of db name bytes = TableMap (number_of (slice_range bytes 0 6)) (number_of (slice_range bytes 6 8)) (slice_range bytes 9 (9 + db)) (slice_range bytes (9 + db + 2) (9 + db + 2 + name)) (slice_range bytes (9 + db + 2 + name + 1) (length bytes))

-- with the byte behind the table's name
abbrev pub table_map_with : ℕ → ℕ → List ℕ → Option Body
table_map_with db name bytes =
    guard (nat_lt (9 + db + 2 + name) (length bytes))
    (guard (slice_index bytes (9 + db + 2 + name) == 0)
    (Some (table_map_of db name bytes)))

-- with the byte behind the database's name, and the length of the table's
abbrev pub table_map_named : ℕ → List ℕ → Option Body
table_map_named db bytes =
    guard (nat_lt (9 + db + 1) (length bytes))
    (guard (slice_index bytes (9 + db) == 0)
    (table_map_with db (slice_index bytes (9 + db + 1)) bytes))

-- type 19, by the length that its fixed fields tell
unfoldable pub table_map_at : List ℕ → Option Body
table_map_at bytes = guard (nat_le 9 (length bytes)) (table_map_named (slice_index bytes 8) bytes)

-- type 38, by the length of its first id
abbrev pub prepare_of : ℕ → List ℕ → Body
prepare_of gtrid bytes = XaPrepare (slice_index bytes 0) record { gtrid = slice_range bytes 13 (13 + gtrid); bqual = slice_range bytes (13 + gtrid) (length bytes); format = number_of (slice_range bytes 1 5) }

-- with nothing behind its ids, each of at most 64 bytes
abbrev pub prepare_with : ℕ → ℕ → List ℕ → Option Body
prepare_with gtrid bqual bytes =
    guard (length bytes == 13 + gtrid + bqual)
    (guard (nat_le gtrid 64)
    (guard (nat_le bqual 64)
    (Some (prepare_of gtrid bytes))))

-- type 38, by the lengths that its fixed fields tell
unfoldable pub prepare_at : List ℕ → Option Body
prepare_at bytes = guard (nat_le 13 (length bytes)) (prepare_with (number_of (slice_range bytes 5 9)) (number_of (slice_range bytes 9 13)) bytes)

-- type 200
unfoldable pub timestamp_at : List ℕ → Option Body
timestamp_at bytes = guard (length bytes == 9) (Some (Timestamp (slice_index bytes 0) (number_of (slice_range bytes 1 9))))

-- the body that these bytes are, by the event's type
unfoldable pub body_at : ℕ → List ℕ → Option Body
body_at kind bytes =
    if kind == 2 then query_at bytes
    else if kind == 4 then rotate_at bytes
    else if kind == 15 then format_at bytes
    else if kind == 16 then xid_at bytes
    else if kind == 19 then table_map_at bytes
    else if kind == 29 then rows_query_at bytes
    else if kind == 38 then prepare_at bytes
    else if kind == 39 then None
    else if kind == 40 then None
    else if kind == 200 then timestamp_at bytes
    else if is_rows_kind kind then Some (Rows bytes)
    else Some (Skipped bytes)

-- what is wrong where a body doesn't fit its type
abbrev pub fault_of : ℕ → EventFault
fault_of kind = if kind == 40 then Compressed else if kind == 39 then Partial else if kind == 15 then BadFormat else BadBody kind

-- the event of a header and a body, where there is one
abbrev pub event_with : Header → Option Body → Result Event EventFault
event_with header None = Err (fault_of header.kind)
event_with header (Some body) = Ok record { header = header; body = body }

-- what a header and the bytes behind it are, under a checksum setting: an event, or its fault
abbrev pub event_of : ℕ → Header → List ℕ → Result Event EventFault
event_of checksum header bytes = event_with (kept_header checksum header) (body_at header.kind (kept_bytes checksum header.kind bytes))

-- what a reader answered is this event or this fault; where memory ran out there is an event
abbrev pub Gives : Result Event ReadError → Result Event EventFault → Type 0
Gives (Ok event) read = read ≡ Ok event
Gives (Err (Fault fault)) read = read ≡ Err fault
Gives (Err Memory) read = IsOk read
