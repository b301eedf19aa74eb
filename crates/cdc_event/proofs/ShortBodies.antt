-- Bodies of one or two fields, read and spelled.
use Rattle.std.proofs.Common.{◌≡◌, ℕ, ◌+◌, ◌<◌, ◌≤◌, ◌==◌, ◌^◌, nat_le, List, length, get_or, refl, ap, sym, ◌∙◌, subst, arith, true, Some}
use Rattle.std.specs.List.{slice_range}
use Rattle.std.proofs.lemmas.Bool.Decides.{nat_tests}
use Rattle.cdc_event.specs.declared.body.Body.{Body}
use Rattle.cdc_event.specs.declared.body.Body.TheVariants.{Rotate, RowsQuery, Timestamp}
use Rattle.cdc_event.specs.declared.body.Body.TheVariants.{Xid as XidEvent}
use Rattle.cdc_event.specs.Number.{low_first, number_of}
use Rattle.cdc_event.specs.Event.{body_bytes, FitsBody}
use Rattle.cdc_event.specs.Reading.{IsBodyOf, guard, rotate_at, xid_at, rows_query_at, timestamp_at}
use Rattle.cdc_event.proofs.Numbers.{AreBytes, bytes_again, number_below, number_again, length_low_first}
use Rattle.cdc_event.proofs.Fields.{last_part, number_bound, last_number, read_at, read_to_end, byte_at}
use Rattle.cdc_event.proofs.Steps.{guard_some, same_some, number_is, byte_is}
use Rattle.cdc_event.proofs.Sizes.{body_size}

pub rotate_spelled : (bytes : List ℕ) (body : Body) → AreBytes bytes → rotate_at bytes ≡ Some body → IsBodyOf 4 bytes body
unfolding rotate_at body_bytes FitsBody
rotate_spelled bytes body h e =
    let a = guard_some _ _ body e in
    let least : 8 ≤ length bytes = grind (arith, nat_tests, a.0) in
    let fact : IsBodyOf 4 bytes (Rotate (number_of (slice_range bytes 0 8)) (slice_range bytes 8 (length bytes)))
    = record {
      fits = number_bound 8 bytes 0 h least;
      typed = refl;
      algorithm = tt;
      spelled = sym (number_is 8 bytes 0 h least refl (last_part bytes 8 least));
    } in
    subst (IsBodyOf 4 bytes) (same_some _ _ a.1) fact

pub rotate_again : (bytes : List ℕ) (position : ℕ) (name : List ℕ) → FitsBody (Rotate position name) → bytes ≡ body_bytes (Rotate position name) → rotate_at bytes ≡ Some (Rotate position name)
unfolding rotate_at body_bytes FitsBody guard
rotate_again bytes position name h e =
    let size : length bytes ≡ 8 + length name = ap length e ∙ body_size (Rotate position name) in
    let w0 = read_at 8 position bytes name 0 h e in
    let rest : slice_range bytes 8 (length bytes) ≡ name = last_part bytes 8 (omega arith) ∙ w0.behind in
    let t0 : nat_le 8 (length bytes) ≡ true = grind (arith, nat_tests) in
    rw (t0, w0.here, rest) refl

pub xid_spelled : (bytes : List ℕ) (body : Body) → AreBytes bytes → xid_at bytes ≡ Some body → IsBodyOf 16 bytes body
unfolding xid_at body_bytes FitsBody
xid_spelled bytes body h e =
    let a = guard_some _ _ body e in
    let size : length bytes ≡ 8 = grind (arith, nat_tests, a.0) in
    let below : number_of bytes < 256 ^ length bytes = number_below bytes h in
    let small : number_of bytes < 256 ^ 8 = rw size at below in
    let fact : IsBodyOf 16 bytes (XidEvent (number_of bytes))
    = record {
      fits = small;
      typed = refl;
      algorithm = tt;
      spelled = sym (ap (λ w. low_first w (number_of bytes)) (sym size) ∙ bytes_again bytes h);
    } in
    subst (IsBodyOf 16 bytes) (same_some _ _ a.1) fact

pub xid_again : (bytes : List ℕ) (number : ℕ) → FitsBody (XidEvent number) → bytes ≡ body_bytes (XidEvent number) → xid_at bytes ≡ Some (XidEvent number)
unfolding xid_at body_bytes FitsBody guard
xid_again bytes number h e =
    let size : length bytes ≡ 8 = ap length e ∙ length_low_first 8 number in
    let here : number_of bytes ≡ number = ap number_of e ∙ number_again 8 number h in
    let t0 : (length bytes == 8) ≡ true = grind (arith, nat_tests) in
    rw (t0, here) refl

pub rows_query_spelled : (bytes : List ℕ) (body : Body) → AreBytes bytes → rows_query_at bytes ≡ Some body → IsBodyOf 29 bytes body
unfolding rows_query_at body_bytes FitsBody
rows_query_spelled bytes body h e =
    let a = guard_some _ _ body e in
    let least : 1 ≤ length bytes = grind (arith, nat_tests, a.0) in
    let fact : IsBodyOf 29 bytes (RowsQuery (get_or bytes 0 0) (slice_range bytes 1 (length bytes)))
    = record {
      fits = h.below 0;
      typed = refl;
      algorithm = tt;
      spelled = sym (byte_is bytes 0 least refl (last_part bytes 1 least));
    } in
    subst (IsBodyOf 29 bytes) (same_some _ _ a.1) fact

pub rows_query_again : (bytes : List ℕ) (size : ℕ) (text : List ℕ) → FitsBody (RowsQuery size text) → bytes ≡ body_bytes (RowsQuery size text) → rows_query_at bytes ≡ Some (RowsQuery size text)
unfolding rows_query_at body_bytes FitsBody guard
rows_query_again bytes size text h e =
    let w0 = byte_at size bytes text 0 e in
    let least : 1 ≤ length bytes = w0.within in
    let rest : slice_range bytes 1 (length bytes) ≡ text = last_part bytes 1 least ∙ w0.behind in
    let t0 : nat_le 1 (length bytes) ≡ true = grind (arith, nat_tests) in
    rw (t0, w0.here, rest) refl

pub timestamp_spelled : (bytes : List ℕ) (body : Body) → AreBytes bytes → timestamp_at bytes ≡ Some body → IsBodyOf 200 bytes body
unfolding timestamp_at body_bytes FitsBody
timestamp_spelled bytes body h e =
    let a = guard_some _ _ body e in
    let size : length bytes ≡ 9 = grind (arith, nat_tests, a.0) in
    let fact : IsBodyOf 200 bytes (Timestamp (get_or bytes 0 0) (number_of (slice_range bytes 1 9)))
    = record {
      fits = (h.below 0, number_bound 8 bytes 1 h (omega arith));
      typed = refl;
      algorithm = tt;
      spelled = sym (byte_is bytes 0 (omega arith) refl (last_number 8 bytes 1 h (omega arith)));
    } in
    subst (IsBodyOf 200 bytes) (same_some _ _ a.1) fact

pub timestamp_again : (bytes : List ℕ) (class value : ℕ) → FitsBody (Timestamp class value) → bytes ≡ body_bytes (Timestamp class value) → timestamp_at bytes ≡ Some (Timestamp class value)
unfolding timestamp_at body_bytes FitsBody guard
timestamp_again bytes class value h e =
    let size : length bytes ≡ 9 = ap length e ∙ body_size (Timestamp class value) in
    let w0 = byte_at class bytes (low_first 8 value) 0 e in
    let w1 : number_of (slice_range bytes 1 (length bytes)) ≡ value = read_to_end 8 value bytes 1 h.1 (omega arith) w0.behind in
    let here : number_of (slice_range bytes 1 9) ≡ value = ap (λ n. number_of (slice_range bytes 1 n)) (sym size) ∙ w1 in
    let t0 : (length bytes == 9) ≡ true = grind (arith, nat_tests) in
    rw (t0, w0.here, here) refl
