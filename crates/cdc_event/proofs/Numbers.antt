-- Numbers as bytes, there and back.
use Rattle.std.proofs.Common.{◌≡◌, ℕ, zero, suc, ◌+◌, ◌*◌, ◌/◌, ◌%◌, ◌^◌, ◌<◌, List, [], ◌∷◌, length, get_or, refl, ap, arith}
use Rattle.std.proofs.Math.Nat.{pow-succ'}
use Rattle.std.specs.Int.{w16, w32, w64, to_le_bytes, from_le_bytes}
use Rattle.cdc_event.specs.Number.{low_first, number_of}

-- each is a byte
pub record AreBytes (bytes : List ℕ) : Type 0 where
  pub below : (i : ℕ) → get_or bytes i 0 < 256

pub low_first_2 : (n : ℕ) → to_le_bytes w16 n ≡ low_first 2 n
unfolding low_first
low_first_2 n = refl

pub low_first_4 : (n : ℕ) → to_le_bytes w32 n ≡ low_first 4 n
unfolding low_first
low_first_4 n =
    let two : n / 65536 ≡ n / 256 / 256 = omega arith in
    let three : n / 16777216 ≡ n / 256 / 256 / 256 = omega arith in
    λ i. n % 256 ∷ n / 256 % 256 ∷ two i % 256 ∷ three i % 256 ∷ []

pub low_first_8 : (n : ℕ) → to_le_bytes w64 n ≡ low_first 8 n
unfolding low_first
low_first_8 n =
    let two : n / 65536 ≡ n / 256 / 256 = omega arith in
    let three : n / 16777216 ≡ n / 256 / 256 / 256 = omega arith in
    let four : n / 4294967296 ≡ n / 256 / 256 / 256 / 256 = omega arith in
    let five : n / 1099511627776 ≡ n / 256 / 256 / 256 / 256 / 256 = omega arith in
    let six : n / 281474976710656 ≡ n / 256 / 256 / 256 / 256 / 256 / 256 = omega arith in
    let seven : n / 72057594037927936 ≡ n / 256 / 256 / 256 / 256 / 256 / 256 / 256 = omega arith in
    λ i. n % 256 ∷ n / 256 % 256 ∷ two i % 256 ∷ three i % 256 ∷ four i % 256 ∷ five i % 256 ∷ six i % 256 ∷ seven i % 256 ∷ []

pub number_of_2 : (bytes : List ℕ) → length bytes ≡ 2 → from_le_bytes w16 (get_or bytes 0 0 ∷ get_or bytes 1 0 ∷ []) ≡ number_of bytes
unfolding number_of
number_of_2 [] h = absurd (omega arith)
number_of_2 (a ∷ []) h = absurd (omega arith)
number_of_2 (a ∷ b ∷ []) h = omega arith
number_of_2 (a ∷ b ∷ c ∷ rest) h = absurd (omega arith)

pub number_of_4 : (bytes : List ℕ) → length bytes ≡ 4 → from_le_bytes w32 (get_or bytes 0 0 ∷ get_or bytes 1 0 ∷ get_or bytes 2 0 ∷ get_or bytes 3 0 ∷ []) ≡ number_of bytes
unfolding number_of
number_of_4 [] h = absurd (omega arith)
number_of_4 (a ∷ []) h = absurd (omega arith)
number_of_4 (a ∷ b ∷ []) h = absurd (omega arith)
number_of_4 (a ∷ b ∷ c ∷ []) h = absurd (omega arith)
number_of_4 (a ∷ b ∷ c ∷ d ∷ []) h = omega arith
number_of_4 (a ∷ b ∷ c ∷ d ∷ e ∷ rest) h = absurd (omega arith)

-- two halves spell a number together
pub number_of_8 : (bytes : List ℕ) → length bytes ≡ 8 → from_le_bytes w64 (get_or bytes 0 0 ∷ get_or bytes 1 0 ∷ get_or bytes 2 0 ∷ get_or bytes 3 0 ∷ get_or bytes 4 0 ∷ get_or bytes 5 0 ∷ get_or bytes 6 0 ∷ get_or bytes 7 0 ∷ []) ≡ number_of bytes
unfolding number_of
number_of_8 [] h = absurd (omega arith)
number_of_8 (a ∷ []) h = absurd (omega arith)
number_of_8 (a ∷ b ∷ []) h = absurd (omega arith)
number_of_8 (a ∷ b ∷ c ∷ []) h = absurd (omega arith)
number_of_8 (a ∷ b ∷ c ∷ d ∷ []) h = absurd (omega arith)
number_of_8 (a ∷ b ∷ c ∷ d ∷ e ∷ []) h = absurd (omega arith)
number_of_8 (a ∷ b ∷ c ∷ d ∷ e ∷ f ∷ []) h = absurd (omega arith)
number_of_8 (a ∷ b ∷ c ∷ d ∷ e ∷ f ∷ g ∷ []) h = absurd (omega arith)
number_of_8 (a ∷ b ∷ c ∷ d ∷ e ∷ f ∷ g ∷ i ∷ []) h = omega arith
number_of_8 (a ∷ b ∷ c ∷ d ∷ e ∷ f ∷ g ∷ i ∷ j ∷ rest) h = absurd (omega arith)

pub number_of_6 : (bytes : List ℕ) → length bytes ≡ 6 → from_le_bytes w64 (get_or bytes 0 0 ∷ get_or bytes 1 0 ∷ get_or bytes 2 0 ∷ get_or bytes 3 0 ∷ get_or bytes 4 0 ∷ get_or bytes 5 0 ∷ 0 ∷ 0 ∷ []) ≡ number_of bytes
unfolding number_of
number_of_6 [] h = absurd (omega arith)
number_of_6 (a ∷ []) h = absurd (omega arith)
number_of_6 (a ∷ b ∷ []) h = absurd (omega arith)
number_of_6 (a ∷ b ∷ c ∷ []) h = absurd (omega arith)
number_of_6 (a ∷ b ∷ c ∷ d ∷ []) h = absurd (omega arith)
number_of_6 (a ∷ b ∷ c ∷ d ∷ e ∷ []) h = absurd (omega arith)
number_of_6 (a ∷ b ∷ c ∷ d ∷ e ∷ f ∷ []) h = omega arith
number_of_6 (a ∷ b ∷ c ∷ d ∷ e ∷ f ∷ g ∷ rest) h = absurd (omega arith)

pub length_low_first : (width n : ℕ) → length (low_first width n) ≡ width
unfolding low_first
length_low_first zero n = refl
length_low_first (suc width) n = ap suc (length_low_first width (n / 256))

-- a number that fits its width is read again
pub number_again : (width n : ℕ) → n < 256 ^ width → number_of (low_first width n) ≡ n
unfolding low_first number_of
number_again zero n h = omega arith
number_again (suc width) n h =
    let more : 256 ^ suc width ≡ 256 * 256 ^ width = pow-succ' 256 width in
    let low : n / 256 < 256 ^ width = omega arith in
    let e : number_of (low_first width (n / 256)) ≡ n / 256 = number_again width (n / 256) low in
    let sum : n % 256 + 256 * (n / 256) ≡ n = omega arith in
    rw e sum

pub tail_bytes : (byte : ℕ) (bytes : List ℕ) → AreBytes (byte ∷ bytes) → AreBytes bytes
tail_bytes byte bytes h = record { below = λ i. h.below (suc i) }

-- bytes are spelled again by the number that they spell
pub bytes_again : (bytes : List ℕ) → AreBytes bytes → low_first (length bytes) (number_of bytes) ≡ bytes
unfolding low_first number_of
bytes_again [] h = refl
bytes_again (byte ∷ bytes) h =
    let small : byte < 256 = h.below 0 in
    let low : (byte + 256 * number_of bytes) % 256 ≡ byte = omega arith in
    let high : (byte + 256 * number_of bytes) / 256 ≡ number_of bytes = omega arith in
    rw (low, high, bytes_again bytes (tail_bytes byte bytes h))

pub number_below : (bytes : List ℕ) → AreBytes bytes → number_of bytes < 256 ^ length bytes
unfolding number_of
number_below [] h = omega arith
number_below (byte ∷ bytes) h =
    let small : byte < 256 = h.below 0 in
    let rest : number_of bytes < 256 ^ length bytes = number_below bytes (tail_bytes byte bytes h) in
    let more : 256 ^ suc (length bytes) ≡ 256 * 256 ^ length bytes = pow-succ' 256 (length bytes) in
    omega arith
