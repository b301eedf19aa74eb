-- A door in memory gives its links in order.
use Rattle.std.proofs.Common.{◌≡◌, ℕ, zero, suc, ◌+◌, ◌<◌, List, [], ◌∷◌, ◌++◌, length, take, drop, sym, ap, subst, add-one, arith}
use Rattle.std.specs.Prelude.{All}

-- the first of what is left from a place on is given out: the rest is left from the next place on
pub record Given {X : Type 0} (x : X) (xs ys : List X) (n : ℕ) : Type 0 where
  pub rest : xs ≡ drop (n + 1) ys
  pub below : n < length ys
  pub taken : take (n + 1) ys ≡ take n ys ++ x ∷ []

one_given : {X : Type 0} (x : X) (xs ys : List X) (n : ℕ) → x ∷ xs ≡ drop n ys → (xs ≡ drop (suc n) ys) × (n < length ys) × (take (suc n) ys ≡ take n ys ++ x ∷ [])
one_given x xs [] zero e = absurd (cc)
one_given x xs [] (suc n) e = absurd (cc)
one_given x xs (y ∷ ys) zero e =
    let same : x ≡ y = cc in
    let rest : xs ≡ ys = cc in
    (rest, omega arith, λ i. sym same i ∷ [])
one_given x xs (y ∷ ys) (suc n) e =
    let h = one_given x xs ys n e in
    (h.0, omega (arith, h.1), ap (λ l. y ∷ l) h.2)

pub given_next : {X : Type 0} (x : X) (xs ys : List X) (n : ℕ) → x ∷ xs ≡ drop n ys → Given x xs ys n
given_next x xs ys n e =
    let h = one_given x xs ys n e in
    let next : suc n ≡ n + 1 = sym (add-one n) in
    record {
      rest = subst (λ m. xs ≡ drop m ys) next h.0;
      below = h.1;
      taken = subst (λ m. take m ys ≡ take n ys ++ x ∷ []) next h.2;
    }

-- what holds of all holds of all but the first
pub all_rest : {X : Type 0} (P : X → Type 0) (x : X) (xs : List X) → All P (x ∷ xs) → All P xs
all_rest P x xs h = λ k d below. h (suc k) d (omega (arith, below))
