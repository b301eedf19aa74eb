-- Whether some number of a rising list is above one and at most another, by a binary search.
use Rattle.std.proofs.Common.{◌≡◌, inl, inr, ◌≤◌, ◌<◌, ◌&&◌, ◌||◌, ℕ, ◌+◌, Bool, true, false, ltb, leb, List, [], ◌∷◌, length, get_or, filter, zero, suc, Ok, Err, ap, sym, refl, ◌∙◌, arith}
use Rattle.std.specs.List.{list_any}
use Rattle.std.specs.List.Sorted.{IsPermutation, IsNonDecreasing, IsBinarySearchResult}
use Rattle.std.specs.Ordering.{nat_cmp}
use Rattle.std.proofs.lemmas.Bool.{lt-ltb, le-ltb, le-leb, lt-leb, leb-true, leb-false, cases_lt}
use Rattle.std.proofs.lemmas.List.Sorted.{searched, list_any-IsPermutation}
use Rattle.cdc_sorter.specs.Trail.{EndedBranch, Trail, stood_before, trail_swept}

any_at : (test : ℕ → Bool) (xs : List ℕ) (i : ℕ) → i < length xs → test (get_or xs i 0) ≡ true → list_any test xs ≡ true
any_at test [] i h e = absurd (omega (arith, h))
any_at test (x ∷ xs) zero h e = ap (λ (b : Bool). b || list_any test xs) e
any_at test (x ∷ xs) (suc i) h e = ap (λ (b : Bool). test x || b) (any_at test xs i (omega (arith, h)) e) ∙ either (test x)
  where
    either : (b : Bool) → (b || true) ≡ true
    either true = refl
    either false = refl

any_none : (test : ℕ → Bool) (xs : List ℕ) → ((k : ℕ) → k < length xs → test (get_or xs k 0) ≡ false) → list_any test xs ≡ false
any_none test [] none = refl
any_none test (x ∷ xs) none =
    ap (λ (b : Bool). b || list_any test xs) (none 0 (omega arith)) ∙ any_none test xs (λ k h. none (suc k) (omega (arith, h)))

abbrev pub is_within : ℕ → ℕ → ℕ → Bool
is_within began ended number = ltb began number && leb number ended

within : (began ended number : ℕ) → began < number → number ≤ ended → is_within began ended number ≡ true
within began ended number low high = ap (λ (b : Bool). b && leb number ended) (lt-ltb began number low) ∙ le-leb number ended high

early : (began ended number : ℕ) → number ≤ began → is_within began ended number ≡ false
early began ended number low = ap (λ (b : Bool). b && leb number ended) (le-ltb began number low)

and_false : (b : Bool) → (b && false) ≡ false
and_false true = refl
and_false false = refl

late : (began ended number : ℕ) → ended < number → is_within began ended number ≡ false
late began ended number high = ap (λ (b : Bool). ltb began number && b) (lt-leb number ended high) ∙ and_false (ltb began number)

-- none is above a number and at most a lesser one
pub between_none : (xs : List ℕ) (began ended : ℕ) → ended ≤ began → false ≡ list_any (is_within began ended) xs
between_none xs began ended h = sym (any_none (is_within began ended) xs (λ k low. by (get_or xs k 0)))
  where
    by : (n : ℕ) → is_within began ended n ≡ false
    by n = elim (cases_lt began n) [
      | inl above ↦ late began ended n (omega (arith, above, h))
      | inr below ↦ early began ended n below
    ]

pub between_ok : (xs : List ℕ) (began ended i : ℕ) → began < ended → IsNonDecreasing xs → IsBinarySearchResult (λ y. nat_cmp y (began + 1)) xs (Ok i)
    → true ≡ list_any (is_within began ended) xs
between_ok xs began ended i h up found =
    let at = searched xs (began + 1) (Ok i) found (λ a b c d. up a b 0 c d) in
    let is : get_or xs i 0 ≡ began + 1 = at.1 in
    sym (any_at (is_within began ended) xs i at.0 (within began ended (get_or xs i 0) (omega (arith, is)) (omega (arith, is, h))))

pub between_err : (xs : List ℕ) (began ended i : ℕ) → IsNonDecreasing xs → IsBinarySearchResult (λ y. nat_cmp y (began + 1)) xs (Err i)
    → (ltb i (length xs) && leb (get_or xs i 0) ended) ≡ list_any (is_within began ended) xs
between_err xs began ended i up found = elim (cases_lt i (length xs)) [
  | inl inside ↦ by inside (leb (get_or xs i 0) ended) refl
  | inr past ↦
      ap (λ (b : Bool). b && leb (get_or xs i 0) ended) (le-ltb i (length xs) past)
      ∙ sym (any_none (is_within began ended) xs (λ k h.
      early began ended (get_or xs k 0) (let less : get_or xs k 0 < began + 1 = at.1 k (omega (arith, h, past)) in omega (arith, less))))
]
  where
    at : (i ≤ length xs) × ((k : ℕ) → k < i → get_or xs k 0 < began + 1) × ((k : ℕ) → i ≤ k → k < length xs → began + 1 < get_or xs k 0)
    at = searched xs (began + 1) (Err i) found (λ a b c d. up a b 0 c d)

    by : i < length xs → (b : Bool) → leb (get_or xs i 0) ended ≡ b → (ltb i (length xs) && leb (get_or xs i 0) ended) ≡ list_any (is_within began ended) xs
    by inside true e =
        let more : began + 1 < get_or xs i 0 = at.2 i (omega arith) inside in
        ap (λ (b : Bool). b && leb (get_or xs i 0) ended) (lt-ltb i (length xs) inside) ∙ e
        ∙ sym (any_at (is_within began ended) xs i inside (within began ended (get_or xs i 0) (omega (arith, more)) (leb-true (get_or xs i 0) ended e)))
    by inside false e =
        let more : ended < get_or xs i 0 = leb-false (get_or xs i 0) ended e in
        ap (λ (b : Bool). ltb i (length xs) && b) e ∙ and_false (ltb i (length xs))
        ∙ sym (any_none (is_within began ended) xs (λ k h. elim (cases_lt k i) [
          | inl front ↦ early began ended (get_or xs k 0) (let less : get_or xs k 0 < began + 1 = at.1 k front in omega (arith, less))
          | inr behind ↦ late began ended (get_or xs k 0) (let far : get_or xs i 0 ≤ get_or xs k 0 = up i k 0 behind h in omega (arith, far, more))
        ]))

-- a sweep by the same numbers in another order
pub swept_alike : (trail : Trail) (xs ys : List ℕ) → IsPermutation xs ys → trail_swept ys trail ≡ trail_swept xs trail
swept_alike trail xs ys same =
    sym (ap (λ (keep : EndedBranch → Bool). record { place = trail.place; checksum = trail.checksum; ended = filter keep trail.ended; recent = trail.recent; known = trail.known })
    (λ i e. list_any-IsPermutation (λ (number : ℕ). stood_before number e) xs ys same i))
