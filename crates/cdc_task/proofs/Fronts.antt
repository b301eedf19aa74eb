-- A field in front of bytes, and what is behind it.
use Rattle.std.proofs.Common.{◌≡◌, ℕ, ◌^◌, ◌<◌, List, ◌++◌, length, take, drop, length-append, ap, sym, ◌∙◌, arith}
use Rattle.std.proofs.Math.Seq.{drop-append_seam, take-append_seam}
use Rattle.cdc_event.specs.Number.{low_first, number_of}
use Rattle.cdc_event.proofs.Numbers.{length_low_first, number_again}

-- the number that bytes begin with, where they begin with one
pub number_front : (width n : ℕ) (bytes rest : List ℕ) → n < 256 ^ width → bytes ≡ low_first width n ++ rest → (number_of (take width bytes) ≡ n) × (drop width bytes ≡ rest)
number_front width n bytes rest fits e =
    let size : length (low_first width n) ≡ width = length_low_first width n in
    let front : take width bytes ≡ low_first width n =
    ap (take width) e ∙ (ap (λ (w : ℕ). take w (low_first width n ++ rest)) (sym size) ∙ take-append_seam (low_first width n) rest) in
    let behind : drop width bytes ≡ rest =
    ap (drop width) e ∙ (ap (λ (w : ℕ). drop w (low_first width n ++ rest)) (sym size) ∙ drop-append_seam (low_first width n) rest) in
    (ap number_of front ∙ number_again width n fits, behind)

-- fewer bytes begin with none
pub too_short : (width n : ℕ) (bytes rest : List ℕ) → length bytes < width → bytes ≡ low_first width n ++ rest → ⊥
too_short width n bytes rest short e = omega (arith, ap length e, length-append (low_first width n) rest, length_low_first width n)
