-- How long the generator's bodies, events and texts are.
use Rattle.std.proofs.Common.{◌≡◌, ◌≤◌, ◌+◌, ◌<◌, ◌^◌, ℕ, List, ◌++◌, length, length-append, refl, arith, ap, ◌∙◌, lit≤}
use Rattle.std.specs.Int.{w32, w64, to_be_bytes, to_le_bytes}
use Rattle.std.specs.Fmt.{digits as decimal_digits}
use Rattle.hex.specs.Hex.{encode_with}
use Rattle.cdc_event.specs.declared.body.Body.{Body}
use Rattle.cdc_event.specs.declared.body.Body.TheVariants.{XaPrepare, Timestamp, Xid}
use Rattle.cdc_event.specs.declared.event.Event.{Event}
use Rattle.cdc_event.specs.declared.header.Header.{Header}
use Rattle.cdc_event.specs.Number.{low_first}
use Rattle.cdc_event.specs.Event.{header_bytes, body_bytes, event_bytes, FitsBody}
use Rattle.cdc_event.proofs.Numbers.{length_low_first, low_first_4}
use Rattle.cdc_event.proofs.Sizes.{body_size}
use Rattle.cdc_query.specs.declared.verb.Verb.TheVariants.{XaStart, XaEnd, XaCommit}
use Rattle.cdc_query.specs.Text.{canonical_text}
use Rattle.cdc_gen.specs.Events.{Unplaced, unplaced, branch_xid, query_body, table_body, row_body}
use Rattle.cdc_gen.specs.Logs.{size_of_event, placed_header, event_placed, with_event}
use Rattle.cdc_gen.specs.Growing.{IsPlaceable}

-- ---- texts

gtrid_length : (k : ℕ) → length (to_be_bytes w64 k) ≡ 8
gtrid_length k = refl

bqual_length : (node : ℕ) → length (to_be_bytes w32 node) ≡ 4
bqual_length node = refl

pub start_length : (k node : ℕ) → length (canonical_text (XaStart (branch_xid k node))) ≡ 42
unfolding encode_with decimal_digits
start_length k node = refl

pub end_length : (k node : ℕ) → length (canonical_text (XaEnd (branch_xid k node))) ≡ 40
unfolding encode_with decimal_digits
end_length k node = refl

pub commit_length : (k node : ℕ) → length (canonical_text (XaCommit (branch_xid k node))) ≡ 43
unfolding encode_with decimal_digits
commit_length k node = refl

-- ---- bodies

pub query_placeable : (text : List ℕ) → length text ≤ 86 → IsPlaceable 2 (query_body text)
unfolding FitsBody
query_placeable text h = record {
  fits = (omega arith, omega arith, omega arith, omega arith, omega arith);
  own = refl;
  short = omega (arith, body_size (query_body text));
}

pub table_placeable : IsPlaceable 19 table_body
unfolding FitsBody table_body
table_placeable = record {
  fits = (omega arith, omega arith, omega arith, omega arith);
  own = refl;
  short = omega (arith, body_size table_body);
}

pub row_placeable : (k : ℕ) → IsPlaceable 30 (row_body k)
unfolding FitsBody row_body
row_placeable k = record {
  fits = tt;
  own = refl;
  short = omega (arith, body_size (row_body k), length_low_first 4 k);
}

pub timestamp_size : (class value : ℕ) → length (body_bytes (Timestamp class value)) ≡ 9
timestamp_size class value = body_size (Timestamp class value)

pub xid_size : (number : ℕ) → length (body_bytes (Xid number)) ≡ 8
xid_size number = body_size (Xid number)

pub timestamp_placeable : (class value : ℕ) → class < 256 → value < 2 ^ 64 → IsPlaceable 200 (Timestamp class value)
unfolding FitsBody
timestamp_placeable class value small within = record {
  fits = (small, within);
  own = refl;
  short = omega (arith, body_size (Timestamp class value));
}

pub xid_placeable : (number : ℕ) → number < 2 ^ 64 → IsPlaceable 16 (Xid number)
unfolding FitsBody
xid_placeable number within = record {
  fits = within;
  own = refl;
  short = omega (arith, body_size (Xid number));
}

pub prepare_placeable : (k node : ℕ) → IsPlaceable 38 (XaPrepare 0 (branch_xid k node))
unfolding FitsBody
prepare_placeable k node = record {
  fits = (omega arith, omega arith, lit≤ tt, lit≤ tt);
  own = refl;
  short = omega (arith, body_size (XaPrepare 0 (branch_xid k node)), gtrid_length k, bqual_length node);
}

-- ---- events

abbrev pub header_by : ℕ → ℕ → ℕ → ℕ → ℕ → Header
header_by node seconds kind size next = record {
  seconds = seconds;
  kind = kind;
  server = 100 + node;
  length = size;
  next = next;
  flags = 0;
}

-- the value of a row
pub value_bytes : (number : ℕ) → to_le_bytes w32 number ≡ low_first 4 number
value_bytes number = low_first_4 number

-- an event has its header and its body
pub event_length : (event : Event) → length (event_bytes event) ≡ 19 + length (body_bytes event.body)
unfolding header_bytes
event_length event = simp (length-append, length_low_first) (omega arith)

-- a log grows by the event's bytes
pub with_event_length : (node : ℕ) (log : List ℕ) (event : Unplaced) → length (with_event node log event) ≡ length log + size_of_event event
unfolding with_event
with_event_length node log event =
    let placed = event_placed node (length log) event in
    length-append log (event_bytes placed) ∙ ap (λ n. length log + n) (event_length placed)

-- what is appended is the event at the log's end
pub appended : (node seconds kind : ℕ) (log new : List ℕ) (header : Header) (body : Body) → header ≡ placed_header node (length log) (unplaced seconds kind body) →
    new ≡ log ++ event_bytes (record { header = header; body = body }) → new ≡ with_event node log (unplaced seconds kind body)
unfolding with_event
appended node seconds kind log new header body is e = rw (← is) e

-- and the log grows by its bytes
pub grown_by : (log new : List ℕ) (header : Header) (body : Body) → length (body_bytes body) ≤ 100 →
    new ≡ log ++ event_bytes (record { header = header; body = body }) → length new ≤ length log + 119
grown_by log new header body short e =
    let event : Event = record { header = header; body = body } in
    let whole = length-append log (event_bytes event) in
    let own = event_length event in
    let both = ap length e in
    omega (arith, whole, own, both, short)

-- a header, by its length and its end
pub header_is : (node seconds kind at size next : ℕ) (body : Body) → size ≡ 19 + length (body_bytes body) → next ≡ at + (19 + length (body_bytes body)) →
    header_by node seconds kind size next ≡ placed_header node at (unplaced seconds kind body)
header_is node seconds kind at size next body e f = λ i. header_by node seconds kind (e i) (f i)
