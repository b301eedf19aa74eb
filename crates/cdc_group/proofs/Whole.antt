-- A whole event of a file is one of its type, of at most 2^27 bytes.
use Rattle.std.proofs.Common.{◌≡◌, ℕ, zero, suc, ◌+◌, ◌-◌, ◌^◌, ◌≤◌, Bool, List, ◌++◌, length, take, min, ap, ◌∙◌, arith, length-append}
use Rattle.std.proofs.lemmas.List.{length-take}
use Rattle.cdc_event.specs.declared.event.Event.{Event}
use Rattle.cdc_event.specs.Event.{header_bytes, body_bytes}
use Rattle.cdc_event.specs.Length.{tail_length, without_last, kept_header, kept_bytes}
use Rattle.cdc_event.specs.File.{IsWhole}
use Rattle.cdc_event.proofs.FileReading.{header_size}
use Rattle.cdc_model.specs.Row.{IsRow}

fewer : (less : ℕ) (bytes : List ℕ) → length (without_last less bytes) ≤ length bytes
fewer zero bytes = omega arith
fewer (suc less) bytes =
    let size : length (take (length bytes - suc less) bytes) ≡ min (length bytes - suc less) (length bytes) = length-take (length bytes - suc less) bytes in
    omega arith

pub whole_taken : (first : Bool) (checksum : ℕ) (bytes : List ℕ) (event : Event) → IsWhole first checksum bytes event → IsRow (event.header.kind, event.body)
whole_taken first checksum bytes event whole =
    let less : length (kept_bytes checksum whole.header.kind whole.body) ≤ length whole.body = fewer (tail_length checksum whole.header.kind) whole.body in
    let there : length bytes ≡ length (header_bytes whole.header) + length whole.body =
    ap length whole.begins.spelled ∙ length-append (header_bytes whole.header) whole.body in
    let head : length (header_bytes whole.header) ≡ 19 = header_size whole.header in
    let spelled : length (header_bytes (kept_header checksum whole.header) ++ kept_bytes checksum whole.header.kind whole.body) ≡ length (header_bytes event.header ++ body_bytes event.body) =
    ap length whole.spelled.spelled in
    let left : length (header_bytes (kept_header checksum whole.header) ++ kept_bytes checksum whole.header.kind whole.body)
    ≡ length (header_bytes (kept_header checksum whole.header)) + length (kept_bytes checksum whole.header.kind whole.body) =
    length-append (header_bytes (kept_header checksum whole.header)) (kept_bytes checksum whole.header.kind whole.body) in
    let right : length (header_bytes event.header ++ body_bytes event.body) ≡ length (header_bytes event.header) + length (body_bytes event.body) =
    length-append (header_bytes event.header) (body_bytes event.body) in
    let kept_head : length (header_bytes (kept_header checksum whole.header)) ≡ 19 = header_size (kept_header checksum whole.header) in
    let own_head : length (header_bytes event.header) ≡ 19 = header_size event.header in
    let most : whole.header.length ≤ 2 ^ 27 = whole.good.most in
    let counted : whole.header.length ≡ length bytes = whole.counted in
    record {
      fits = whole.spelled.fits.body;
      kind = whole.spelled.fits.kind;
      numbered = whole.spelled.fits.header.kind;
      most = omega arith;
    }
