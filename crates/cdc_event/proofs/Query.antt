-- A query's body, read and spelled.
use Rattle.std.proofs.Common.{◌≡◌, ℕ, ◌+◌, ◌<◌, ◌≤◌, ◌==◌, nat_le, nat_lt, List, length, get_or, refl, sym, ◌∙◌, subst, arith, true, Some}
use Rattle.std.specs.List.{slice_range}
use Rattle.std.proofs.lemmas.Bool.Decides.{nat_tests}
use Rattle.cdc_event.specs.declared.body.Body.{Body}
use Rattle.cdc_event.specs.declared.body.Body.TheVariants.{Query}
use Rattle.cdc_event.specs.Number.{number_of}
use Rattle.cdc_event.specs.Event.{body_bytes, FitsBody}
use Rattle.cdc_event.specs.Reading.{IsBodyOf, guard, query_of, query_with, query_at}
use Rattle.cdc_event.proofs.Numbers.{AreBytes}
use Rattle.cdc_event.proofs.Fields.{length_range, part_step, last_part, number_bound, stands_at, read_at, byte_at}
use Rattle.cdc_event.proofs.Steps.{guard_some, same_some, number_is, byte_is}

with_spelled : (status db : ℕ) (bytes : List ℕ) (body : Body) → AreBytes bytes → 13 ≤ length bytes → number_of (slice_range bytes 11 13) ≡ status → get_or bytes 8 0 ≡ db → query_with status db bytes ≡ Some body → IsBodyOf 2 bytes body
unfolding body_bytes FitsBody
with_spelled status db bytes body h least s d e =
    let a = guard_some _ _ body e in
    let b = guard_some _ _ body a.1 in
    let within : 13 + status + db < length bytes = grind (arith, nat_tests, a.0) in
    let nil : get_or bytes (13 + status + db) 0 ≡ 0 = grind (arith, nat_tests, b.0) in
    let status_size : length (slice_range bytes 13 (13 + status)) ≡ status = omega (arith, length_range bytes 13 (13 + status) (omega arith) (omega arith)) in
    let db_size : length (slice_range bytes (13 + status) (13 + status + db)) ≡ db = omega (arith, length_range bytes (13 + status) (13 + status + db) (omega arith) (omega arith)) in
    let fact : IsBodyOf 2 bytes (query_of status db bytes)
    = record {
      fits = (number_bound 4 bytes 0 h (omega arith), number_bound 4 bytes 4 h (omega arith), number_bound 2 bytes 9 h (omega arith), omega (arith, number_bound 2 bytes 11 h (omega arith)), omega (arith, h.below 8));
      typed = refl;
      algorithm = tt;
      spelled = sym (number_is 4 bytes 0 h (omega arith) refl (number_is 4 bytes 4 h (omega arith) refl (byte_is bytes 8 (omega arith) (d ∙ sym db_size) (number_is 2 bytes 9 h (omega arith) refl (number_is 2 bytes 11 h (omega arith) (s ∙ sym status_size) (part_step bytes 13 (13 + status) (omega arith) (part_step bytes (13 + status) (13 + status + db) (omega arith) (byte_is bytes (13 + status + db) within nil (last_part bytes (13 + status + db + 1) (omega arith))))))))));
    } in
    subst (IsBodyOf 2 bytes) (same_some _ _ b.1) fact

pub query_spelled : (bytes : List ℕ) (body : Body) → AreBytes bytes → query_at bytes ≡ Some body → IsBodyOf 2 bytes body
unfolding query_at
query_spelled bytes body h e =
    let a = guard_some _ _ body e in
    let least : 13 ≤ length bytes = grind (arith, nat_tests, a.0) in
    with_spelled (number_of (slice_range bytes 11 13)) (get_or bytes 8 0) bytes body h least refl refl a.1

pub query_again : (bytes : List ℕ) (thread seconds error : ℕ) (status db text : List ℕ) → FitsBody (Query thread seconds error status db text) → bytes ≡ body_bytes (Query thread seconds error status db text) → query_at bytes ≡ Some (Query thread seconds error status db text)
unfolding query_at body_bytes FitsBody guard
query_again bytes thread seconds error status db text h e =
    let w0 = read_at 4 thread bytes _ 0 h.0 e in
    let w1 = read_at 4 seconds bytes _ 4 h.1 w0.behind in
    let w2 = byte_at (length db) bytes _ 8 w1.behind in
    let w3 = read_at 2 error bytes _ 9 h.2 w2.behind in
    let w4 = read_at 2 (length status) bytes _ 11 h.3 w3.behind in
    let w5 = stands_at bytes status _ 13 w4.behind in
    let w6 = stands_at bytes db _ (13 + length status) w5.behind in
    let w7 = byte_at 0 bytes text (13 + length status + length db) w6.behind in
    let within : 13 + length status + length db < length bytes = w7.within in
    let rest : slice_range bytes (13 + length status + length db + 1) (length bytes) ≡ text = last_part bytes (13 + length status + length db + 1) (omega arith) ∙ w7.behind in
    let t0 : nat_le 13 (length bytes) ≡ true = grind (arith, nat_tests) in
    let t1 : nat_lt (13 + length status + length db) (length bytes) ≡ true = grind (arith, nat_tests) in
    let t2 : (get_or bytes (13 + length status + length db) 0 == 0) ≡ true = grind (arith, nat_tests, w7.here) in
    rw (t0, w4.here, w2.here, t1, t2, w0.here, w1.here, w3.here, w5.here, w6.here, rest) refl
