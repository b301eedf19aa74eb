-- Which bytes spell which event: the MySQL binary log, version 4, and this service's TIMESTAMP.
use Rattle.std.specs.Prelude.{◌≡◌, ℕ, ◌+◌, ◌^◌, ◌<◌, ◌≤◌, ◌==◌, ◌&&◌, ◌||◌, not, Bool, IsTrue, nat_le, List, [], ◌∷◌, ◌++◌, length}
use Rattle.std.specs.List.{list_any}
use Rattle.cdc_event.specs.declared.header.Header.{Header}
use Rattle.cdc_event.specs.declared.body.Body.{Body}
use Rattle.cdc_event.specs.declared.body.Body.TheVariants.{Format, Query, Rotate, RowsQuery, TableMap, Rows, XaPrepare, Timestamp, Skipped}
use Rattle.cdc_event.specs.declared.body.Body.TheVariants.{Xid as XidEvent}
use Rattle.cdc_event.specs.declared.event.Event.{Event}
use Rattle.cdc_event.specs.Number.{low_first}

-- the four bytes that begin a log file
abbrev pub magic : List ℕ
magic = 254 ∷ 98 ∷ 105 ∷ 110 ∷ []

-- the 19 bytes of a header
unfoldable pub header_bytes : Header → List ℕ
header_bytes header =
    low_first 4 header.seconds ++ (header.kind ∷ (low_first 4 header.server ++ (low_first 4 header.length ++ (low_first 4 header.next ++ low_first 2 header.flags))))

-- the bytes of a body, in the layout of its type
unfoldable pub body_bytes : Body → List ℕ
body_bytes (Format text created lengths checksum tail) =
    low_first 2 4 ++ (text ++ (low_first 4 created ++ (19 ∷ (lengths ++ (checksum ∷ low_first 4 tail)))))
body_bytes (Query thread seconds error status db text) =
    low_first 4 thread ++ (low_first 4 seconds ++ (length db ∷ (low_first 2 error ++ (low_first 2 (length status) ++ (status ++ (db ++ (0 ∷ text)))))))
body_bytes (Rotate position name) = low_first 8 position ++ name
body_bytes (XidEvent number) = low_first 8 number
body_bytes (RowsQuery size text) = size ∷ text
body_bytes (TableMap table flags db name rest) =
    low_first 6 table ++ (low_first 2 flags ++ (length db ∷ (db ++ (0 ∷ (length name ∷ (name ++ (0 ∷ rest)))))))
body_bytes (Rows bytes) = bytes
body_bytes (XaPrepare one_phase xid) =
    one_phase ∷ (low_first 4 xid.format ++ (low_first 4 (length xid.gtrid) ++ (low_first 4 (length xid.bqual) ++ (xid.gtrid ++ xid.bqual))))
body_bytes (Timestamp class value) = class ∷ low_first 8 value
body_bytes (Skipped bytes) = bytes

-- how many bytes a body has
abbrev pub body_length : Body → ℕ
body_length (Format text created lengths checksum tail) = 12 + (length text + length lengths)
body_length (Query thread seconds error status db text) = 14 + (length status + (length db + length text))
body_length (Rotate position name) = 8 + length name
body_length (XidEvent number) = 8
body_length (RowsQuery size text) = 1 + length text
body_length (TableMap table flags db name rest) = 12 + (length db + (length name + length rest))
body_length (Rows bytes) = length bytes
body_length (XaPrepare one_phase xid) = 13 + (length xid.gtrid + length xid.bqual)
body_length (Timestamp class value) = 9
body_length (Skipped bytes) = length bytes

-- the bytes of an event
abbrev pub event_bytes : Event → List ℕ
event_bytes event = header_bytes event.header ++ body_bytes event.body

-- the types of row events
abbrev pub is_rows_kind : ℕ → Bool
is_rows_kind kind = (nat_le 23 kind && nat_le kind 25) || (nat_le 30 kind && nat_le kind 32)

-- the types with a layout of their own, or refused: no body of these is passed over unread
abbrev pub is_known_kind : ℕ → Bool
is_known_kind kind = is_rows_kind kind || list_any (λ known. known == kind) (2 ∷ 4 ∷ 15 ∷ 16 ∷ 19 ∷ 29 ∷ 38 ∷ 39 ∷ 40 ∷ 200 ∷ [])

-- a body stands under its type
abbrev pub has_kind : Body → ℕ → Bool
has_kind (Format text created lengths checksum tail) kind = kind == 15
has_kind (Query thread seconds error status db text) kind = kind == 2
has_kind (Rotate position name) kind = kind == 4
has_kind (XidEvent number) kind = kind == 16
has_kind (RowsQuery size text) kind = kind == 29
has_kind (TableMap table flags db name rest) kind = kind == 19
has_kind (Rows bytes) kind = is_rows_kind kind
has_kind (XaPrepare one_phase xid) kind = kind == 38
has_kind (Timestamp class value) kind = kind == 200
has_kind (Skipped bytes) kind = not (is_known_kind kind)

-- each number of a body fits its field, and each byte string its length field
unfoldable pub FitsBody : Body → Type 0
FitsBody (Format text created lengths checksum tail) = (length text ≡ 50) × (created < 2 ^ 32) × (checksum < 256) × (tail < 2 ^ 32)
FitsBody (Query thread seconds error status db text) = (thread < 2 ^ 32) × (seconds < 2 ^ 32) × (error < 2 ^ 16) × (length status < 2 ^ 16) × (length db < 256)
FitsBody (Rotate position name) = position < 2 ^ 64
FitsBody (XidEvent number) = number < 2 ^ 64
FitsBody (RowsQuery size text) = size < 256
FitsBody (TableMap table flags db name rest) = (table < 2 ^ 48) × (flags < 2 ^ 16) × (length db < 256) × (length name < 256)
FitsBody (Rows bytes) = Unit {0}
FitsBody (XaPrepare one_phase xid) = (one_phase < 256) × (xid.format < 2 ^ 32) × (length xid.gtrid ≤ 64) × (length xid.bqual ≤ 64)
FitsBody (Timestamp class value) = (class < 256) × (value < 2 ^ 64)
FitsBody (Skipped bytes) = Unit {0}

-- each number of a header fits its field
pub record FitsHeader (header : Header) : Type 0 where
  pub seconds : header.seconds < 2 ^ 32
  pub kind : header.kind < 256
  pub server : header.server < 2 ^ 32
  pub next : header.next < 2 ^ 32
  pub flags : header.flags < 2 ^ 16

-- an event that has bytes: its parts fit, and its length field counts all of it, at most 2^27 + 256 bytes
pub record IsEvent (event : Event) : Type 0 where
  pub header : FitsHeader event.header
  pub body : FitsBody event.body
  pub kind : IsTrue (has_kind event.body event.header.kind)
  pub whole : event.header.length ≡ 19 + length (body_bytes event.body)
  pub most : event.header.length ≤ 2 ^ 27 + 256

-- these bytes spell this event
pub record Encodes (event : Event) (bytes : List ℕ) : Type 0 where
  pub fits : IsEvent event
  pub spelled : bytes ≡ event_bytes event
