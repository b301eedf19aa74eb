-- Relations between two lists: one pair more, and what follows pair by pair.
use Rattle.std.proofs.Common.{◌≡◌, ℕ, zero, suc, ◌+◌, ◌<◌, Bool, true, List, [], ◌∷◌, ◌++◌, length, get_or, map, take, ◌∙◌, subst, arith}
use Rattle.std.specs.List.{All, AllZip, AllByRecursion}
use Rattle.std.proofs.lemmas.List.Elements.{All-from_recursion, recursion_from_All}

more_of : {A B : Type 0} (R : A → B → Type 0) (xs : List A) (ys : List B) (i : ℕ) (x : A) (y : B) → i < length xs → x ≡ get_or xs i x → AllZip R (take i xs) ys → R x y → AllZip R (take (suc i) xs) (ys ++ y ∷ [])
more_of R [] ys i x y within is all one = absurd (omega (arith, within))
more_of R (a ∷ xs) [] zero x y within is all one = (subst (λ v. R v y) is one, tt)
more_of R (a ∷ xs) (b ∷ ys) zero x y within is all one = absurd all
more_of R (a ∷ xs) [] (suc i) x y within is all one = absurd all
more_of R (a ∷ xs) (b ∷ ys) (suc i) x y within is all one = (all.0, more_of R xs ys i x y (omega (arith, within)) is all.1 one)

pub zip_more : {A B : Type 0} (R : A → B → Type 0) (xs : List A) (ys : List B) (i : ℕ) (x : A) (y : B) → i < length xs → x ≡ get_or xs i x → AllZip R (take i xs) ys → R x y → AllZip R (take (i + 1) xs) (ys ++ y ∷ [])
zip_more R xs ys i x y within is all one = subst (λ n. AllZip R (take n xs) (ys ++ y ∷ [])) (let e : suc i ≡ i + 1 = omega arith in e) (more_of R xs ys i x y within is all one)

-- a weaker relation
pub zip_weaker : {A B : Type 0} (P Q : A → B → Type 0) → ((x : A) (y : B) → P x y → Q x y) → (xs : List A) (ys : List B) → AllZip P xs ys → AllZip Q xs ys
zip_weaker P Q weaker [] [] all = tt
zip_weaker P Q weaker [] (y ∷ ys) all = absurd all
zip_weaker P Q weaker (x ∷ xs) [] all = absurd all
zip_weaker P Q weaker (x ∷ xs) (y ∷ ys) all = (weaker x y all.0, zip_weaker P Q weaker xs ys all.1)

-- what a relation carries over from one to the other
pub all_over : {A B : Type 0} (R : A → B → Type 0) (P : A → Type 0) (Q : B → Type 0) → ((x : A) (y : B) → R x y → P x → Q y) → (xs : List A) (ys : List B) → AllZip R xs ys → AllByRecursion P xs → AllByRecursion Q ys
all_over R P Q step [] [] pairs all = tt
all_over R P Q step [] (y ∷ ys) pairs all = absurd pairs
all_over R P Q step (x ∷ xs) [] pairs all = absurd pairs
all_over R P Q step (x ∷ xs) (y ∷ ys) pairs all = (step x y pairs.0 all.0, all_over R P Q step xs ys pairs.1 all.1)

-- the same by recursion
same_tests : {A : Type 0} (f : A → Bool) (xs ys : List A) → map f ys ≡ map f xs → AllByRecursion (λ (x : A). f x ≡ true) xs → AllByRecursion (λ (y : A). f y ≡ true) ys
same_tests f xs [] same all = tt
same_tests f [] (y ∷ ys) same all = absurd cc
same_tests f (x ∷ xs) (y ∷ ys) same all =
    let head : f y ≡ f x = cc in
    let rest : map f ys ≡ map f xs = cc in
    (head ∙ all.0, same_tests f xs ys rest all.1)

-- a test that all pass, where it is seen the same
pub all_seen_same : {A : Type 0} (f : A → Bool) (xs ys : List A) → map f ys ≡ map f xs → All (λ (x : A). f x ≡ true) xs → All (λ (y : A). f y ≡ true) ys
all_seen_same {A} f xs ys same all =
    All-from_recursion (λ (y : A). f y ≡ true) ys (same_tests f xs ys same (recursion_from_All (λ (x : A). f x ≡ true) xs all))
