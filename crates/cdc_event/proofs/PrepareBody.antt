-- A prepare event's body, read and spelled.
use Rattle.std.proofs.Common.{◌≡◌, ℕ, ◌+◌, ◌≤◌, ◌==◌, nat_le, List, length, refl, ap, sym, ◌∙◌, subst, arith, true, Some}
use Rattle.std.specs.List.{slice_range}
use Rattle.std.proofs.lemmas.Bool.Decides.{nat_tests}
use Rattle.cdc_base.specs.declared.xid.Xid.{Xid}
use Rattle.cdc_event.specs.declared.body.Body.{Body}
use Rattle.cdc_event.specs.declared.body.Body.TheVariants.{XaPrepare}
use Rattle.cdc_event.specs.Number.{number_of}
use Rattle.cdc_event.specs.Event.{body_bytes, FitsBody}
use Rattle.cdc_event.specs.Reading.{IsBodyOf, guard, prepare_of, prepare_with, prepare_at}
use Rattle.cdc_event.proofs.Numbers.{AreBytes}
use Rattle.cdc_event.proofs.Fields.{length_range, part_step, last_part, number_bound, stands_at, read_at, byte_at}
use Rattle.cdc_event.proofs.Steps.{guard_some, same_some, number_is, byte_is}
use Rattle.cdc_event.proofs.Sizes.{body_size}

with_spelled : (gtrid bqual : ℕ) (bytes : List ℕ) (body : Body) → AreBytes bytes → number_of (slice_range bytes 5 9) ≡ gtrid → number_of (slice_range bytes 9 13) ≡ bqual → prepare_with gtrid bqual bytes ≡ Some body → IsBodyOf 38 bytes body
unfolding body_bytes FitsBody
with_spelled gtrid bqual bytes body h g q e =
    let a = guard_some _ _ body e in
    let b = guard_some _ _ body a.1 in
    let c = guard_some _ _ body b.1 in
    let size : length bytes ≡ 13 + gtrid + bqual = grind (arith, nat_tests, a.0) in
    let short : gtrid ≤ 64 = grind (arith, nat_tests, b.0) in
    let short_too : bqual ≤ 64 = grind (arith, nat_tests, c.0) in
    let gtrid_size : length (slice_range bytes 13 (13 + gtrid)) ≡ gtrid = omega (arith, length_range bytes 13 (13 + gtrid) (omega arith) (omega arith)) in
    let bqual_size : length (slice_range bytes (13 + gtrid) (length bytes)) ≡ bqual = omega (arith, length_range bytes (13 + gtrid) (length bytes) (omega arith) (omega arith)) in
    let fact : IsBodyOf 38 bytes (prepare_of gtrid bytes)
    = record {
      fits = (h.below 0, number_bound 4 bytes 1 h (omega arith), omega arith, omega arith);
      typed = refl;
      algorithm = tt;
      spelled = sym (byte_is bytes 0 (omega arith) refl (number_is 4 bytes 1 h (omega arith) refl (number_is 4 bytes 5 h (omega arith) (g ∙ sym gtrid_size) (number_is 4 bytes 9 h (omega arith) (q ∙ sym bqual_size) (part_step bytes 13 (13 + gtrid) (omega arith) (last_part bytes (13 + gtrid) (omega arith)))))));
    } in
    subst (IsBodyOf 38 bytes) (same_some _ _ c.1) fact

pub prepare_spelled : (bytes : List ℕ) (body : Body) → AreBytes bytes → prepare_at bytes ≡ Some body → IsBodyOf 38 bytes body
unfolding prepare_at
prepare_spelled bytes body h e =
    let a = guard_some _ _ body e in
    with_spelled (number_of (slice_range bytes 5 9)) (number_of (slice_range bytes 9 13)) bytes body h refl refl a.1

pub prepare_again : (bytes : List ℕ) (one_phase : ℕ) (xid : Xid) → FitsBody (XaPrepare one_phase xid) → bytes ≡ body_bytes (XaPrepare one_phase xid) → prepare_at bytes ≡ Some (XaPrepare one_phase xid)
unfolding prepare_at body_bytes FitsBody guard
prepare_again bytes one_phase xid h e =
    let size : length bytes ≡ 13 + (length xid.gtrid + length xid.bqual) = ap length e ∙ body_size (XaPrepare one_phase xid) in
    let short : length xid.gtrid ≤ 64 = h.2 in
    let short_too : length xid.bqual ≤ 64 = h.3 in
    let w0 = byte_at one_phase bytes _ 0 e in
    let w1 = read_at 4 xid.format bytes _ 1 h.1 w0.behind in
    let w2 = read_at 4 (length xid.gtrid) bytes _ 5 (omega arith) w1.behind in
    let w3 = read_at 4 (length xid.bqual) bytes _ 9 (omega arith) w2.behind in
    let w4 = stands_at bytes xid.gtrid xid.bqual 13 w3.behind in
    let last : slice_range bytes (13 + length xid.gtrid) (length bytes) ≡ xid.bqual = last_part bytes (13 + length xid.gtrid) (omega arith) ∙ w4.behind in
    let t0 : nat_le 13 (length bytes) ≡ true = grind (arith, nat_tests) in
    let t1 : (length bytes == 13 + length xid.gtrid + length xid.bqual) ≡ true = grind (arith, nat_tests) in
    let t2 : nat_le (length xid.gtrid) 64 ≡ true = grind (arith, nat_tests) in
    let t3 : nat_le (length xid.bqual) 64 ≡ true = grind (arith, nat_tests) in
    rw (t0, w2.here, w3.here, t1, t2, t3, w0.here, w1.here, w4.here, last) refl
