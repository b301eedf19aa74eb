-- Lists by their places.
use Rattle.std.proofs.Common.{◌≡◌, ℕ, zero, suc, ◌<◌, ◌≤◌, List, [], ◌∷◌, length, get_or, set, map, take, Some, sym, ap, subst, arith}
use Rattle.std.specs.Prelude.{slice_get}
use Rattle.std.specs.List.{AllZip, AllByRecursion}

pub zip_by_index : {A B : Type 0} (R : A → B → Type 0) (xs : List A) (ys : List B) → length ys ≡ length xs → ((k : ℕ) (d : A) (e : B) → k < length xs → R (get_or xs k d) (get_or ys k e)) → AllZip R xs ys
zip_by_index R [] [] long each = tt
zip_by_index R [] (y ∷ ys) long each = absurd (omega (arith, long))
zip_by_index R (x ∷ xs) [] long each = absurd (omega (arith, long))
zip_by_index R (x ∷ xs) (y ∷ ys) long each = (each zero x y (omega arith), zip_by_index R xs ys (omega (arith, long)) (λ k d e within. each (suc k) d e (omega (arith, within))))

pub zip_same : {A : Type 0} (R : A → A → Type 0) → ((x : A) → R x x) → (xs : List A) → AllZip R xs xs
zip_same R starts [] = tt
zip_same R starts (x ∷ xs) = (starts x, zip_same R starts xs)

-- what holds of the first ones, seen by a function
pub each_before : {A B : Type 0} (f : A → B) (P : B → Type 0) (xs : List A) (count : ℕ) → count ≤ length xs → ((k : ℕ) (d : A) → k < count → P (f (get_or xs k d))) → AllByRecursion P (take count (map f xs))
each_before f P xs zero few each = tt
each_before f P [] (suc count) few each = absurd (omega (arith, few))
each_before f P (x ∷ xs) (suc count) few each = (each zero x (omega arith), each_before f P xs count (omega (arith, few)) (λ k d within. each (suc k) d (omega (arith, within))))

-- what holds of the first pairs, the first seen by a function
pub zip_before : {A B C : Type 0} (f : A → B) (R : B → C → Type 0) (xs : List A) (ys : List C) (count : ℕ) → count ≤ length xs → count ≤ length ys
    → ((k : ℕ) (d : A) (e : C) → k < count → R (f (get_or xs k d)) (get_or ys k e)) → AllZip R (take count (map f xs)) (take count ys)
zip_before f R xs ys zero few many each = tt
zip_before f R [] ys (suc count) few many each = absurd (omega (arith, few))
zip_before f R (x ∷ xs) [] (suc count) few many each = absurd (omega (arith, many))
zip_before f R (x ∷ xs) (y ∷ ys) (suc count) few many each =
    (each zero x y (omega arith), zip_before f R xs ys count (omega (arith, few)) (omega (arith, many)) (λ k d e within. each (suc k) d e (omega (arith, within))))

-- the item at a place
pub at_place : {A : Type 0} (xs : List A) (k : ℕ) (x : A) → k < length xs → x ≡ get_or xs k x → slice_get xs k ≡ Some x
at_place [] k x within is = absurd (omega (arith, within))
at_place (a ∷ xs) zero x within is = ap (λ v. Some v) (sym is)
at_place (a ∷ xs) (suc k) x within is = at_place xs k x (omega (arith, within)) is

-- what the first ones of pairs have
pub zip_first : {A B : Type 0} (R : A → B → Type 0) (P : A → Type 0) → ((x : A) (y : B) → R x y → P x) → (xs : List A) (ys : List B) → AllZip R xs ys → AllByRecursion P xs
zip_first R P so [] [] all = tt
zip_first R P so [] (y ∷ ys) all = absurd all
zip_first R P so (x ∷ xs) [] all = absurd all
zip_first R P so (x ∷ xs) (y ∷ ys) all = (so x y all.0, zip_first R P so xs ys all.1)

-- pairs seen by functions
pub zip_seen : {A B C E : Type 0} (f : A → C) (g : B → E) (R : A → B → Type 0) (S : C → E → Type 0) → ((x : A) (y : B) → R x y → S (f x) (g y)) → (xs : List A) (ys : List B) → AllZip R xs ys → AllZip S (map f xs) (map g ys)
zip_seen f g R S so [] [] all = tt
zip_seen f g R S so [] (y ∷ ys) all = absurd all
zip_seen f g R S so (x ∷ xs) [] all = absurd all
zip_seen f g R S so (x ∷ xs) (y ∷ ys) all = (so x y all.0, zip_seen f g R S so xs ys all.1)

-- one of the second ones is put in its place
pub zip_put : {A : Type 0} (R : A → A → Type 0) (olds news : List A) (k : ℕ) (old new : A) → AllZip R olds news → old ≡ get_or olds k old → R old new → AllZip R olds (set news k new)
zip_put R [] [] k old new all is put = tt
zip_put R [] (y ∷ ys) k old new all is put = absurd all
zip_put R (x ∷ xs) [] k old new all is put = absurd all
zip_put R (x ∷ xs) (y ∷ ys) zero old new all is put = (subst (λ v. R v new) is put, all.1)
zip_put R (x ∷ xs) (y ∷ ys) (suc k) old new all is put = (all.0, zip_put R xs ys k old new all.1 is put)
