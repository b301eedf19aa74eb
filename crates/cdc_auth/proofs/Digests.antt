-- Digests byte by byte.
use Rattle.std.proofs.Common.{◌≡◌, ℕ, zero, suc, ◌+◌, ◌<◌, List, [], ◌∷◌, ◌++◌, length, take, get_or, refl, sym, ◌∙◌, ap, arith}
use Rattle.std.specs.Prelude.{Bool, true, false, ◌&&◌, ◌==◌, bit_xor, slice_set}
use Rattle.std.specs.Str.{bytes_eq}
use Rattle.cdc_auth.specs.Answer.{xor_bytes}

-- one byte more of both
pub xor_more : (i : ℕ) (bytes others : List ℕ) → i < length bytes → i < length others
    → xor_bytes (take (suc i) bytes) (take (suc i) others) ≡ xor_bytes (take i bytes) (take i others) ++ bit_xor (get_or bytes i 0) (get_or others i 0) ∷ []
xor_more i [] others h k = absurd (omega (arith, h))
xor_more i (b ∷ bytes) [] h k = absurd (omega (arith, k))
xor_more zero (b ∷ bytes) (o ∷ others) h k = refl
xor_more (suc i) (b ∷ bytes) (o ∷ others) h k = ap (λ l. bit_xor b o ∷ l) (xor_more i bytes others (omega (arith, h)) (omega (arith, k)))

-- a list with one item set, up to behind that
pub set_more : (i x : ℕ) (xs : List ℕ) → i < length xs → take (suc i) (slice_set xs i x) ≡ take i xs ++ x ∷ []
set_more i x [] h = absurd (omega (arith, h))
set_more zero x (y ∷ xs) h = refl
set_more (suc i) x (y ∷ xs) h = ap (λ l. y ∷ l) (set_more i x xs (omega (arith, h)))

pub xor_next : (i : ℕ) (bytes others joined : List ℕ) → take i joined ≡ xor_bytes (take i bytes) (take i others) → i < length bytes → i < length others → i < length joined
    → take (i + 1) (slice_set joined i (bit_xor (get_or bytes i 0) (get_or others i 0))) ≡ xor_bytes (take (i + 1) bytes) (take (i + 1) others)
xor_next i bytes others joined e h k l =
    let more : i + 1 ≡ suc i = omega arith in
    ap (λ n. take n (slice_set joined i (bit_xor (get_or bytes i 0) (get_or others i 0)))) more
    ∙ set_more i _ joined l ∙ ap (λ front. front ++ bit_xor (get_or bytes i 0) (get_or others i 0) ∷ []) e
    ∙ sym (xor_more i bytes others h k) ∙ ap (λ n. xor_bytes (take n bytes) (take n others)) (sym more)

and_assoc : (a b c : Bool) → ((a && b) && c) ≡ (a && (b && c))
and_assoc true b c = refl
and_assoc false b c = refl

pub eq_more : (i : ℕ) (xs ys : List ℕ) → i < length xs → i < length ys → bytes_eq (take (suc i) xs) (take (suc i) ys) ≡ (bytes_eq (take i xs) (take i ys) && (get_or xs i 0 == get_or ys i 0))
eq_more i [] ys h k = absurd (omega (arith, h))
eq_more i (x ∷ xs) [] h k = absurd (omega (arith, k))
eq_more zero (x ∷ xs) (y ∷ ys) h k = and_true (x == y)
  where
    and_true : (b : Bool) → (b && true) ≡ b
    and_true true = refl
    and_true false = refl
eq_more (suc i) (x ∷ xs) (y ∷ ys) h k = ap (λ b. (x == y) && b) (eq_more i xs ys (omega (arith, h)) (omega (arith, k))) ∙ sym (and_assoc (x == y) _ _)

-- equal bytes more leave it as it was
pub equal_next : (i differing : ℕ) (xs ys : List ℕ) → (differing == 0) ≡ bytes_eq (take i xs) (take i ys) → i < length xs → i < length ys → get_or xs i 0 ≡ get_or ys i 0
    → (differing == 0) ≡ bytes_eq (take (i + 1) xs) (take (i + 1) ys)
equal_next i differing xs ys e h k same =
    let more : suc i ≡ i + 1 = omega arith in
    e ∙ sym (and_same (bytes_eq (take i xs) (take i ys)) (get_or xs i 0) (get_or ys i 0) same)
    ∙ sym (eq_more i xs ys h k) ∙ ap (λ n. bytes_eq (take n xs) (take n ys)) more
  where
    and_same : (b : Bool) (x y : ℕ) → x ≡ y → (b && (x == y)) ≡ b
    and_same true x y e = grind (arith, e)
    and_same false x y e = refl

-- bytes that differ make it false
pub unequal_next : (i differing : ℕ) (xs ys : List ℕ) → i < length xs → i < length ys → (get_or xs i 0 ≡ get_or ys i 0 → ⊥)
    → (differing + 1 == 0) ≡ bytes_eq (take (i + 1) xs) (take (i + 1) ys)
unequal_next i differing xs ys h k differ =
    let more : suc i ≡ i + 1 = omega arith in
    let none : (differing + 1 == 0) ≡ false = grind arith in
    none ∙ sym (and_differ (bytes_eq (take i xs) (take i ys)) (get_or xs i 0) (get_or ys i 0) differ)
    ∙ sym (eq_more i xs ys h k) ∙ ap (λ n. bytes_eq (take n xs) (take n ys)) more
  where
    and_differ : (b : Bool) (x y : ℕ) → (x ≡ y → ⊥) → (b && (x == y)) ≡ false
    and_differ true x y e = grind (arith, e)
    and_differ false x y e = refl
