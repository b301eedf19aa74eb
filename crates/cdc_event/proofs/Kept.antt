-- What is kept of an event, as its first bytes.
use Rattle.std.proofs.Common.{◌≡◌, ℕ, zero, suc, ◌-◌, List, length, take, refl, sym, ap, ◌∙◌, arith}
use Rattle.std.proofs.Math.Seq.{take-length}
use Rattle.cdc_event.specs.Length.{tail_length, without_last, kept_bytes}

pub front_is : (less : ℕ) (bytes : List ℕ) → without_last less bytes ≡ take (length bytes - less) bytes
front_is zero bytes =
    let none : length bytes - 0 ≡ length bytes = omega arith in
    sym (ap (λ n. take n bytes) none ∙ take-length bytes)
front_is (suc less) bytes = refl

pub kept_is_front : (checksum kind : ℕ) (bytes : List ℕ) → kept_bytes checksum kind bytes ≡ take (length bytes - tail_length checksum kind) bytes
kept_is_front checksum kind bytes = front_is (tail_length checksum kind) bytes
