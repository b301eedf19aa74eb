-- A table map's body, read and spelled.
use Rattle.std.proofs.Common.{◌≡◌, ℕ, ◌+◌, ◌<◌, ◌==◌, nat_le, nat_lt, List, length, drop, get_or, refl, ap, sym, ◌∙◌, subst, arith, true, Some}
use Rattle.std.specs.List.{slice_range}
use Rattle.std.proofs.lemmas.Bool.Decides.{nat_tests}
use Rattle.cdc_event.specs.declared.body.Body.{Body}
use Rattle.cdc_event.specs.declared.body.Body.TheVariants.{TableMap}
use Rattle.cdc_event.specs.Event.{body_bytes, FitsBody}
use Rattle.cdc_event.specs.Reading.{IsBodyOf, guard, table_map_of, table_map_with, table_map_at}
use Rattle.cdc_event.proofs.Numbers.{AreBytes}
use Rattle.cdc_event.proofs.Fields.{length_range, part_step, last_part, number_bound, stands_at, read_at, byte_at}
use Rattle.cdc_event.proofs.Steps.{guard_some, same_some, number_is, byte_is}

with_spelled : (db name : ℕ) (bytes : List ℕ) (body : Body) → AreBytes bytes → get_or bytes 8 0 ≡ db → 9 + db + 1 < length bytes → get_or bytes (9 + db) 0 ≡ 0 → get_or bytes (9 + db + 1) 0 ≡ name → table_map_with db name bytes ≡ Some body → IsBodyOf 19 bytes body
unfolding body_bytes FitsBody
with_spelled db name bytes body h d first nul n e =
    let a = guard_some _ _ body e in
    let b = guard_some _ _ body a.1 in
    let within : 9 + db + 2 + name < length bytes = grind (arith, nat_tests, a.0) in
    let nil : get_or bytes (9 + db + 2 + name) 0 ≡ 0 = grind (arith, nat_tests, b.0) in
    let db_size : length (slice_range bytes 9 (9 + db)) ≡ db = omega (arith, length_range bytes 9 (9 + db) (omega arith) (omega arith)) in
    let name_size : length (slice_range bytes (9 + db + 2) (9 + db + 2 + name)) ≡ name = omega (arith, length_range bytes (9 + db + 2) (9 + db + 2 + name) (omega arith) (omega arith)) in
    let two : 9 + db + 2 ≡ 9 + db + 1 + 1 = omega arith in
    let fact : IsBodyOf 19 bytes (table_map_of db name bytes)
    = record {
      fits = (number_bound 6 bytes 0 h (omega arith), number_bound 2 bytes 6 h (omega arith), omega (arith, h.below 8), omega (arith, h.below (9 + db + 1)));
      typed = refl;
      algorithm = tt;
      spelled = sym (number_is 6 bytes 0 h (omega arith) refl (number_is 2 bytes 6 h (omega arith) refl (byte_is bytes 8 (omega arith) (d ∙ sym db_size) (part_step bytes 9 (9 + db) (omega arith) (byte_is bytes (9 + db) (omega arith) nul (byte_is bytes (9 + db + 1) first (n ∙ sym name_size) (part_step bytes (9 + db + 2) (9 + db + 2 + name) (omega arith) (byte_is bytes (9 + db + 2 + name) within nil (last_part bytes (9 + db + 2 + name + 1) (omega arith))) ∙ ap (λ m. drop m bytes) two)))))));
    } in
    subst (IsBodyOf 19 bytes) (same_some _ _ b.1) fact

pub table_map_spelled : (bytes : List ℕ) (body : Body) → AreBytes bytes → table_map_at bytes ≡ Some body → IsBodyOf 19 bytes body
unfolding table_map_at
table_map_spelled bytes body h e =
    let a = guard_some _ _ body e in
    let b = guard_some _ _ body a.1 in
    let c = guard_some _ _ body b.1 in
    let first : 9 + get_or bytes 8 0 + 1 < length bytes = grind (arith, nat_tests, b.0) in
    let nul : get_or bytes (9 + get_or bytes 8 0) 0 ≡ 0 = grind (arith, nat_tests, c.0) in
    with_spelled (get_or bytes 8 0) (get_or bytes (9 + get_or bytes 8 0 + 1) 0) bytes body h refl first nul refl c.1

pub table_map_again : (bytes : List ℕ) (table flags : ℕ) (db name rest : List ℕ) → FitsBody (TableMap table flags db name rest) → bytes ≡ body_bytes (TableMap table flags db name rest) → table_map_at bytes ≡ Some (TableMap table flags db name rest)
unfolding table_map_at body_bytes FitsBody guard
table_map_again bytes table flags db name rest h e =
    let w0 = read_at 6 table bytes _ 0 h.0 e in
    let w1 = read_at 2 flags bytes _ 6 h.1 w0.behind in
    let w2 = byte_at (length db) bytes _ 8 w1.behind in
    let w3 = stands_at bytes db _ 9 w2.behind in
    let w4 = byte_at 0 bytes _ (9 + length db) w3.behind in
    let w5 = byte_at (length name) bytes _ (9 + length db + 1) w4.behind in
    let two : 9 + length db + 2 ≡ 9 + length db + 1 + 1 = omega arith in
    let w6 = stands_at bytes name _ (9 + length db + 2) (ap (λ m. drop m bytes) two ∙ w5.behind) in
    let w7 = byte_at 0 bytes rest (9 + length db + 2 + length name) w6.behind in
    let within : 9 + length db + 2 + length name < length bytes = w7.within in
    let last : slice_range bytes (9 + length db + 2 + length name + 1) (length bytes) ≡ rest = last_part bytes (9 + length db + 2 + length name + 1) (omega arith) ∙ w7.behind in
    let t0 : nat_le 9 (length bytes) ≡ true = grind (arith, nat_tests) in
    let t1 : nat_lt (9 + length db + 1) (length bytes) ≡ true = grind (arith, nat_tests) in
    let t2 : (get_or bytes (9 + length db) 0 == 0) ≡ true = grind (arith, nat_tests, w4.here) in
    let t3 : nat_lt (9 + length db + 2 + length name) (length bytes) ≡ true = grind (arith, nat_tests) in
    let t4 : (get_or bytes (9 + length db + 2 + length name) 0 == 0) ≡ true = grind (arith, nat_tests, w7.here) in
    rw (t0, w2.here, t1, t2, w5.here, t3, t4, w0.here, w1.here, w3.here, w6.here, last) refl
