-- Fields of a byte list, one behind the other: what is cut out is spelled so, and what is spelled is cut out.
use Rattle.std.proofs.Common.{◌≡◌, ℕ, zero, suc, ◌+◌, ◌-◌, ◌^◌, ◌<◌, ◌≤◌, List, [], ◌∷◌, ◌++◌, length, take, drop, get_or, ap, sym, ◌∙◌, arith, length-drop, drop-cons, append-nil}
use Rattle.std.specs.List.{slice_range}
use Rattle.std.proofs.lemmas.List.{length-take, drop-drop}
use Rattle.std.proofs.lemmas.List.Folds.{drop_split}
use Rattle.std.proofs.Math.Seq.{drop-append_seam, take-append_seam, take-length, drop-length}
use Rattle.cdc_event.specs.Number.{low_first, number_of}
use Rattle.cdc_event.proofs.Numbers.{AreBytes, bytes_again, number_below, number_again, length_low_first, tail_bytes}

-- a list from a place on, in two steps
pub drop_more : (from more : ℕ) (bytes : List ℕ) → drop (from + more) bytes ≡ drop more (drop from bytes)
drop_more from more bytes = sym (drop-drop more from bytes)

pub length_range : (bytes : List ℕ) (from to : ℕ) → from ≤ to → to ≤ length bytes → length (slice_range bytes from to) ≡ to - from
length_range bytes from to h k =
    let size : length (drop from bytes) ≡ length bytes - from = length-drop from bytes in
    omega (arith, length-take (to - from) (drop from bytes))

cons_below : (byte : ℕ) (bytes : List ℕ) → byte < 256 → AreBytes bytes → (i : ℕ) → get_or (byte ∷ bytes) i 0 < 256
cons_below byte bytes b h zero = b
cons_below byte bytes b h (suc i) = h.below i

none_below : (i : ℕ) → get_or [] i 0 < 256
none_below i = omega arith

pub take_bytes : (n : ℕ) (bytes : List ℕ) → AreBytes bytes → AreBytes (take n bytes)
take_bytes zero bytes h = record { below = none_below }
take_bytes (suc n) [] h = record { below = none_below }
take_bytes (suc n) (byte ∷ bytes) h = record { below = cons_below byte (take n bytes) (h.below 0) (take_bytes n bytes (tail_bytes byte bytes h)) }

pub drop_bytes : (n : ℕ) (bytes : List ℕ) → AreBytes bytes → AreBytes (drop n bytes)
drop_bytes zero bytes h = h
drop_bytes (suc n) [] h = record { below = none_below }
drop_bytes (suc n) (byte ∷ bytes) h = drop_bytes n bytes (tail_bytes byte bytes h)

pub range_bytes : (bytes : List ℕ) (from to : ℕ) → AreBytes bytes → AreBytes (slice_range bytes from to)
range_bytes bytes from to h = take_bytes (to - from) (drop from bytes) (drop_bytes from bytes h)

-- a part that is cut out, and what stands behind it
pub part_step : (bytes : List ℕ) (from to : ℕ) {rest : List ℕ} → from ≤ to → rest ≡ drop to bytes → slice_range bytes from to ++ rest ≡ drop from bytes
part_step bytes from to h e = ap (λ r. slice_range bytes from to ++ r) e ∙ sym (drop_split bytes from to h)

pub last_part : (bytes : List ℕ) (from : ℕ) → from ≤ length bytes → slice_range bytes from (length bytes) ≡ drop from bytes
last_part bytes from h = ap (λ n. take n (drop from bytes)) (sym (length-drop from bytes)) ∙ take-length (drop from bytes)

-- a number that is read, and what stands behind it
pub number_step : (width : ℕ) (bytes : List ℕ) (from : ℕ) {rest : List ℕ} → AreBytes bytes → from + width ≤ length bytes → rest ≡ drop (from + width) bytes → low_first width (number_of (slice_range bytes from (from + width))) ++ rest ≡ drop from bytes
number_step width bytes from h k e =
    let size : length (slice_range bytes from (from + width)) ≡ width = omega (arith, length_range bytes from (from + width) (omega arith) k) in
    let spelled : low_first width (number_of (slice_range bytes from (from + width))) ≡ slice_range bytes from (from + width)
    = ap (λ w. low_first w (number_of (slice_range bytes from (from + width)))) (sym size) ∙ bytes_again (slice_range bytes from (from + width)) (range_bytes bytes from (from + width) h) in
    rw spelled (part_step bytes from (from + width) (omega arith) e)

-- a number at the end
pub last_number : (width : ℕ) (bytes : List ℕ) (from : ℕ) → AreBytes bytes → from + width ≡ length bytes → low_first width (number_of (slice_range bytes from (from + width))) ≡ drop from bytes
last_number width bytes from h k =
    let none : [] ≡ drop (from + width) bytes = sym (ap (λ n. drop n bytes) k ∙ drop-length bytes) in
    sym (append-nil (low_first width (number_of (slice_range bytes from (from + width))))) ∙ number_step width bytes from h (omega arith) none

-- a number that is read up to the end
pub number_to_end : (width : ℕ) (bytes : List ℕ) (from : ℕ) → AreBytes bytes → from + width ≡ length bytes → low_first width (number_of (slice_range bytes from (length bytes))) ≡ drop from bytes
number_to_end width bytes from h k = ap (λ to. low_first width (number_of (slice_range bytes from to))) (sym k) ∙ last_number width bytes from h k

-- a byte, and what stands behind it
pub byte_step : (bytes : List ℕ) (from : ℕ) {rest : List ℕ} → from < length bytes → rest ≡ drop (suc from) bytes → get_or bytes from 0 ∷ rest ≡ drop from bytes
byte_step bytes from h e = ap (λ r. get_or bytes from 0 ∷ r) e ∙ sym (drop-cons bytes from 0 h)

-- a number that is read is below the bound of its width
pub number_bound : (width : ℕ) (bytes : List ℕ) (from : ℕ) → AreBytes bytes → from + width ≤ length bytes → number_of (slice_range bytes from (from + width)) < 256 ^ width
number_bound width bytes from h k =
    let size : length (slice_range bytes from (from + width)) ≡ width = omega (arith, length_range bytes from (from + width) (omega arith) k) in
    let below : number_of (slice_range bytes from (from + width)) < 256 ^ length (slice_range bytes from (from + width)) = number_below (slice_range bytes from (from + width)) (range_bytes bytes from (from + width) h) in
    rw size at below

-- a part that is spelled stands there, and the rest behind it
pub record StandsAt (bytes xs rest : List ℕ) (from : ℕ) : Type 0 where
  pub here : slice_range bytes from (from + length xs) ≡ xs
  pub behind : drop (from + length xs) bytes ≡ rest

pub stands_at : (bytes xs rest : List ℕ) (from : ℕ) → drop from bytes ≡ xs ++ rest → StandsAt bytes xs rest from
stands_at bytes xs rest from e = record {
  here = let size : from + length xs - from ≡ length xs = omega arith in rw (size, e) (take-append_seam xs rest);
  behind = drop_more from (length xs) bytes ∙ (ap (drop (length xs)) e ∙ drop-append_seam xs rest);
}

-- the same, up to a place that is named otherwise
pub record StandsTo (bytes xs rest : List ℕ) (from to : ℕ) : Type 0 where
  pub here : slice_range bytes from to ≡ xs
  pub behind : drop to bytes ≡ rest

pub stands_to : (bytes xs rest : List ℕ) (from to : ℕ) → from + length xs ≡ to → drop from bytes ≡ xs ++ rest → StandsTo bytes xs rest from to
stands_to bytes xs rest from to k e =
    let s = stands_at bytes xs rest from e in
    record {
      here = ap (λ n. slice_range bytes from n) (sym k) ∙ s.here;
      behind = ap (λ n. drop n bytes) (sym k) ∙ s.behind;
    }

-- a number that is spelled is read again
pub record ReadAt (width number : ℕ) (bytes rest : List ℕ) (from : ℕ) : Type 0 where
  pub here : number_of (slice_range bytes from (from + width)) ≡ number
  pub behind : drop (from + width) bytes ≡ rest

pub read_at : (width number : ℕ) (bytes rest : List ℕ) (from : ℕ) → number < 256 ^ width → drop from bytes ≡ low_first width number ++ rest → ReadAt width number bytes rest from
read_at width number bytes rest from h e =
    let s = stands_at bytes (low_first width number) rest from e in
    let size : length (low_first width number) ≡ width = length_low_first width number in
    record {
      here = ap (λ w. number_of (slice_range bytes from (from + w))) (sym size) ∙ (ap number_of s.here ∙ number_again width number h);
      behind = ap (λ w. drop (from + w) bytes) (sym size) ∙ s.behind;
    }

-- a number that is spelled up to the end
pub read_to_end : (width number : ℕ) (bytes : List ℕ) (from : ℕ) → number < 256 ^ width → from + width ≡ length bytes → drop from bytes ≡ low_first width number → number_of (slice_range bytes from (length bytes)) ≡ number
read_to_end width number bytes from h k e =
    let r = read_at width number bytes [] from h (e ∙ sym (append-nil (low_first width number))) in
    ap (λ n. number_of (slice_range bytes from n)) (sym k) ∙ r.here

-- a byte that is spelled stands there
pub record ByteAt (byte : ℕ) (bytes rest : List ℕ) (from : ℕ) : Type 0 where
  pub here : get_or bytes from 0 ≡ byte
  pub behind : drop (from + 1) bytes ≡ rest
  pub within : from < length bytes

pub byte_at : (byte : ℕ) (bytes rest : List ℕ) (from : ℕ) → drop from bytes ≡ byte ∷ rest → ByteAt byte bytes rest from
byte_at byte bytes rest from e =
    let size : length bytes - from ≡ suc (length rest) = sym (length-drop from bytes) ∙ ap length e in
    let within : from < length bytes = omega arith in
    let cons : get_or bytes from 0 ∷ drop (suc from) bytes ≡ byte ∷ rest = sym (drop-cons bytes from 0 within) ∙ e in
    let next : drop (from + 1) bytes ≡ drop (suc from) bytes = ap (λ n. drop n bytes) (let one : from + 1 ≡ suc from = omega arith in one) in
    record { here = cc; behind = cc; within = within }
