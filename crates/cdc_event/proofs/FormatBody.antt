-- A format event's body, read and spelled.
use Rattle.std.proofs.Common.{◌≡◌, ℕ, ◌+◌, ◌-◌, ◌<◌, ◌≤◌, ◌^◌, nat_le, List, length, drop, get_or, refl, ap, sym, ◌∙◌, subst, arith, true, Some}
use Rattle.std.specs.List.{slice_range}
use Rattle.std.proofs.lemmas.Bool.Decides.{nat_tests}
use Rattle.cdc_event.specs.declared.body.Body.{Body}
use Rattle.cdc_event.specs.declared.body.Body.TheVariants.{Format}
use Rattle.cdc_event.specs.Number.{low_first, number_of}
use Rattle.cdc_event.specs.Event.{body_bytes, FitsBody}
use Rattle.cdc_event.specs.Reading.{IsBodyOf, guard, format_body_of, format_at}
use Rattle.cdc_event.proofs.Numbers.{AreBytes}
use Rattle.cdc_event.proofs.Fields.{length_range, part_step, number_bound, number_to_end, stands_to, read_at, read_to_end, byte_at}
use Rattle.cdc_event.proofs.Steps.{guard_some, same_some, number_is, byte_is}
use Rattle.cdc_event.proofs.Sizes.{body_size}

pub format_spelled : (bytes : List ℕ) (body : Body) → AreBytes bytes → format_at bytes ≡ Some body → IsBodyOf 15 bytes body
unfolding format_at body_bytes FitsBody
format_spelled bytes body h e =
    let a = guard_some _ _ body e in
    let b = guard_some _ _ body a.1 in
    let c = guard_some _ _ body b.1 in
    let d = guard_some _ _ body c.1 in
    let least : 62 ≤ length bytes = grind (arith, nat_tests, a.0) in
    let version : number_of (slice_range bytes 0 2) ≡ 4 = grind (arith, nat_tests, b.0) in
    let heads : get_or bytes 56 0 ≡ 19 = grind (arith, nat_tests, c.0) in
    let known : get_or bytes (length bytes - 5) 0 ≤ 1 = grind (arith, nat_tests, d.0) in
    let size : length (slice_range bytes 2 52) ≡ 50 = length_range bytes 2 52 (omega arith) (omega arith) in
    let bound : number_of (slice_range bytes (length bytes - 4) (length bytes - 4 + 4)) < 256 ^ 4 = number_bound 4 bytes (length bytes - 4) h (omega arith) in
    let place : length bytes - 4 + 4 ≡ length bytes = omega arith in
    let tail_bound : number_of (slice_range bytes (length bytes - 4) (length bytes)) < 256 ^ 4 = subst (λ n. number_of (slice_range bytes (length bytes - 4) n) < 256 ^ 4) place bound in
    let next : length bytes - 4 ≡ length bytes - 5 + 1 = omega arith in
    let fact : IsBodyOf 15 bytes (format_body_of bytes)
    = record {
      fits = (size, number_bound 4 bytes 52 h (omega arith), omega arith, tail_bound);
      typed = refl;
      algorithm = known;
      spelled = sym (number_is 2 bytes 0 h (omega arith) version (part_step bytes 2 52 (omega arith) (number_is 4 bytes 52 h (omega arith) refl (byte_is bytes 56 (omega arith) heads (part_step bytes 57 (length bytes - 5) (omega arith) (byte_is bytes (length bytes - 5) (omega arith) refl (number_to_end 4 bytes (length bytes - 4) h (omega arith) ∙ ap (λ n. drop n bytes) next)))))));
    } in
    subst (IsBodyOf 15 bytes) (same_some _ _ d.1) fact

pub format_again : (bytes text : List ℕ) (created : ℕ) (lengths : List ℕ) (checksum tail : ℕ) → FitsBody (Format text created lengths checksum tail) → checksum ≤ 1 → bytes ≡ body_bytes (Format text created lengths checksum tail) → format_at bytes ≡ Some (Format text created lengths checksum tail)
unfolding format_at body_bytes FitsBody guard
format_again bytes text created lengths checksum tail h known e =
    let size : length bytes ≡ 12 + (length text + length lengths) = ap length e ∙ body_size (Format text created lengths checksum tail) in
    let fifty : length text ≡ 50 = h.0 in
    let w0 = read_at 2 4 bytes _ 0 (omega arith) e in
    let w1 = stands_to bytes text _ 2 52 (omega arith) w0.behind in
    let w2 = read_at 4 created bytes _ 52 h.1 w1.behind in
    let w3 = byte_at 19 bytes _ 56 w2.behind in
    let w4 = stands_to bytes lengths _ 57 (length bytes - 5) (omega arith) w3.behind in
    let w5 = byte_at checksum bytes (low_first 4 tail) (length bytes - 5) w4.behind in
    let next : length bytes - 4 ≡ length bytes - 5 + 1 = omega arith in
    let last : number_of (slice_range bytes (length bytes - 4) (length bytes)) ≡ tail = read_to_end 4 tail bytes (length bytes - 4) h.3 (omega arith) (ap (λ n. drop n bytes) next ∙ w5.behind) in
    let t0 : nat_le 62 (length bytes) ≡ true = grind (arith, nat_tests) in
    let t1 : nat_le checksum 1 ≡ true = grind (arith, nat_tests) in
    rw (t0, w0.here, w3.here, w5.here, t1, w1.here, w2.here, w4.here, last) refl

-- the fields of a format event's body, whatever its algorithm
pub format_is : (bytes text : List ℕ) (created : ℕ) (lengths : List ℕ) (checksum tail : ℕ) → FitsBody (Format text created lengths checksum tail) → bytes ≡ body_bytes (Format text created lengths checksum tail) → format_body_of bytes ≡ Format text created lengths checksum tail
unfolding body_bytes FitsBody
format_is bytes text created lengths checksum tail h e =
    let size : length bytes ≡ 12 + (length text + length lengths) = ap length e ∙ body_size (Format text created lengths checksum tail) in
    let fifty : length text ≡ 50 = h.0 in
    let w0 = read_at 2 4 bytes _ 0 (omega arith) e in
    let w1 = stands_to bytes text _ 2 52 (omega arith) w0.behind in
    let w2 = read_at 4 created bytes _ 52 h.1 w1.behind in
    let w3 = byte_at 19 bytes _ 56 w2.behind in
    let w4 = stands_to bytes lengths _ 57 (length bytes - 5) (omega arith) w3.behind in
    let w5 = byte_at checksum bytes (low_first 4 tail) (length bytes - 5) w4.behind in
    let next : length bytes - 4 ≡ length bytes - 5 + 1 = omega arith in
    let last : number_of (slice_range bytes (length bytes - 4) (length bytes)) ≡ tail = read_to_end 4 tail bytes (length bytes - 4) h.3 (omega arith) (ap (λ n. drop n bytes) next ∙ w5.behind) in
    rw (w1.here, w2.here, w4.here, w5.here, last) refl
