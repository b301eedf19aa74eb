-- Three lists item by item.
use Rattle.std.proofs.Common.{◌≡◌, ℕ, zero, suc, ◌<◌, List, [], ◌∷◌, length, get_or, arith}
use Rattle.std.specs.List.{AllZip}
use Rattle.cdc_opening.specs.Lists.{AllThree}

pub three_by_index : {A B C : Type 0} (R : A → B → C → Type 0) (xs : List A) (ys : List B) (zs : List C) → length ys ≡ length xs → length zs ≡ length xs
    → ((k : ℕ) (d : A) (e : B) (f : C) → k < length xs → R (get_or xs k d) (get_or ys k e) (get_or zs k f)) → AllThree R xs ys zs
three_by_index R [] [] [] many long each = tt
three_by_index R [] [] (z ∷ zs) many long each = absurd (omega (arith, long))
three_by_index R [] (y ∷ ys) zs many long each = absurd (omega (arith, many))
three_by_index R (x ∷ xs) [] zs many long each = absurd (omega (arith, many))
three_by_index R (x ∷ xs) (y ∷ ys) [] many long each = absurd (omega (arith, long))
three_by_index R (x ∷ xs) (y ∷ ys) (z ∷ zs) many long each =
    (each zero x y z (omega arith), three_by_index R xs ys zs (omega (arith, many)) (omega (arith, long)) (λ k d e f within. each (suc k) d e f (omega (arith, within))))

-- what holds of the first two of each three
pub first_two : {A B C : Type 0} (R : A → B → C → Type 0) (S : A → B → Type 0) → ((a : A) (b : B) (c : C) → R a b c → S a b)
    → (xs : List A) (ys : List B) (zs : List C) → AllThree R xs ys zs → AllZip S xs ys
first_two R S so [] [] [] all = tt
first_two R S so [] [] (z ∷ zs) all = absurd all
first_two R S so [] (y ∷ ys) zs all = absurd all
first_two R S so (x ∷ xs) [] zs all = absurd all
first_two R S so (x ∷ xs) (y ∷ ys) [] all = absurd all
first_two R S so (x ∷ xs) (y ∷ ys) (z ∷ zs) all = (so x y z all.0, first_two R S so xs ys zs all.1)
