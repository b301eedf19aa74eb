-- How many bytes a body has.
use Rattle.std.proofs.Common.{◌≡◌, length, length-append, refl, arith}
use Rattle.cdc_event.specs.declared.body.Body.{Body}
use Rattle.cdc_event.specs.declared.body.Body.TheVariants.{Format, Query, Rotate, RowsQuery, TableMap, Rows, XaPrepare, Timestamp, Skipped}
use Rattle.cdc_event.specs.declared.body.Body.TheVariants.{Xid as XidEvent}
use Rattle.cdc_event.specs.Event.{body_bytes, body_length}
use Rattle.cdc_event.proofs.Numbers.{length_low_first}

pub body_size : (body : Body) → length (body_bytes body) ≡ body_length body
unfolding body_bytes
body_size (Format text created lengths checksum tail) = simp (length-append, length_low_first) (omega arith)
body_size (Query thread seconds error status db text) = simp (length-append, length_low_first) (omega arith)
body_size (Rotate position name) = simp (length-append, length_low_first) (omega arith)
body_size (XidEvent number) = length_low_first 8 number
body_size (RowsQuery size text) = omega arith
body_size (TableMap table flags db name rest) = simp (length-append, length_low_first) (omega arith)
body_size (Rows bytes) = refl
body_size (XaPrepare one_phase xid) = simp (length-append, length_low_first) (omega arith)
body_size (Timestamp class value) = simp (length_low_first) (omega arith)
body_size (Skipped bytes) = refl
