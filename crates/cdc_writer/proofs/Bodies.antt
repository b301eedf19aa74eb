-- The lengths of bodies and of printed events.
use Rattle.std.proofs.Common.{◌≡◌, ℕ, zero, suc, ◌+◌, ◌/◌, List, [], length, refl, ap, arith, length-append}
use Rattle.cdc_event.specs.Number.{low_first}
use Rattle.cdc_event.specs.declared.body.Body.TheVariants.{Query, RowsQuery, Xid}
use Rattle.cdc_event.specs.Event.{header_bytes, body_bytes}
use Rattle.cdc_model.specs.Records.{Row}
use Rattle.cdc_model.specs.Print.{row_length, printed_event}

pub length-low_first : (width number : ℕ) → length (low_first width number) ≡ width
unfolding low_first
length-low_first zero number = refl
length-low_first (suc width) number = ap (λ n. suc n) (length-low_first width (number / 256))

pub marked_size : (size : ℕ) (text : List ℕ) → length (body_bytes (RowsQuery size text)) ≡ 1 + length text
unfolding body_bytes
marked_size size text = omega arith

pub query_size : (db text : List ℕ) → length (body_bytes (Query 0 0 0 [] db text)) ≡ 14 + length db + length text
unfolding body_bytes
query_size db text = simp (length-append, length-low_first) (omega arith)

pub xid_size : (number : ℕ) → length (body_bytes (Xid number)) ≡ 8
unfolding body_bytes
xid_size number = length-low_first 8 number

-- a printed event has its length
pub printed_size : (at seconds : ℕ) (event : Row) → length (printed_event at seconds event) ≡ row_length event
unfolding header_bytes
printed_size at seconds event = simp (length-append, length-low_first) (omega arith)
