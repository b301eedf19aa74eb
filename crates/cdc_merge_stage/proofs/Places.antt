-- Lists of which one place changes.
use Rattle.std.proofs.Common.{◌≡◌, ℕ, zero, suc, ◌<◌, List, [], ◌∷◌, ◌++◌, length, map, get_or, set, refl, sym, ap, subst, arith}
use Rattle.std.specs.List.{AllZip, AllByRecursion}
use Rattle.std.proofs.lemmas.List.{set-get_or, get_or-set_same}
use Rattle.cdc_turns.proofs.Turnings.{turned_same}
use Rattle.cdc_turns.specs.Joined.{total, nothing_for, AllTurned}
use Rattle.cdc_turns.proofs.Pairwise.{zip_set}
use Rattle.std.proofs.lemmas.List.Sums.{sum_by-cons}

-- the second list alone changes
pub zip_right : {A B : Type 0} (R : A → B → Type 0) (xs : List A) (ys : List B) (k : ℕ) (d : A) (y : B) → AllZip R xs ys → R (get_or xs k d) y → AllZip R xs (set ys k y)
zip_right R xs ys k d y all is = subst (λ l. AllZip R l (set ys k y)) (set-get_or xs k d) (zip_set R xs ys k (get_or xs k d) y all is)

pub all_set : {A : Type 0} (P : A → Type 0) (xs : List A) (k : ℕ) (x d : A) → (P x → P (get_or xs k d)) → AllByRecursion P (set xs k x) → AllByRecursion P xs
all_set P [] k x d back all = all
all_set P (a ∷ xs) zero x d back (first, all) = (back first, all)
all_set P (a ∷ xs) (suc k) x d back (first, all) = (first, all_set P xs k x d back all)

pub all_at : {A : Type 0} (P : A → Type 0) (xs : List A) (k : ℕ) (x : A) → k < length xs → AllByRecursion P (set xs k x) → P x
all_at P [] k x within all = absurd (omega (arith, within))
all_at P (a ∷ xs) zero x within (first, all) = first
all_at P (a ∷ xs) (suc k) x within (first, all) = all_at P xs k x (omega (arith, within)) all

pub all_here : {A : Type 0} (P : A → Type 0) (xs : List A) (k : ℕ) (d : A) → k < length xs → AllByRecursion P xs → P (get_or xs k d)
all_here P [] k d within all = absurd (omega (arith, within))
all_here P (a ∷ xs) zero d within (first, all) = first
all_here P (a ∷ xs) (suc k) d within (first, all) = all_here P xs k d (omega (arith, within)) all

pub all_seen : {A B : Type 0} (f : A → B) (P : A → Type 0) (Q : B → Type 0) → ((a : A) → P a → Q (f a)) → (xs : List A) → AllByRecursion P xs → AllByRecursion Q (map f xs)
all_seen f P Q seen [] all = tt
all_seen f P Q seen (x ∷ xs) (first, all) = (seen x first, all_seen f P Q seen xs all)

pub all_front : {A : Type 0} (P : A → Type 0) (xs : List A) (x : A) → AllByRecursion P (xs ++ x ∷ []) → AllByRecursion P xs
all_front P [] x all = tt
all_front P (y ∷ xs) x (first, all) = (first, all_front P xs x all)

pub all_last : {A : Type 0} (P : A → Type 0) (xs : List A) (x : A) → AllByRecursion P (xs ++ x ∷ []) → P x
all_last P [] x (first, all) = first
all_last P (y ∷ xs) x (first, all) = all_last P xs x all

-- ---- totals

pub total_nothing : {A : Type 0} (T : Type 0) (olds : List A) → total (nothing_for {A = A} {T = T} olds) ≡ 0
total_nothing T [] = refl
total_nothing T (old ∷ olds) = total_nothing T olds

pub total_one : {A T : Type 0} (olds : List A) (k : ℕ) (item : T) → k < length olds → total (set (nothing_for olds) k (item ∷ [])) ≡ 1
total_one [] k item within = absurd (omega (arith, within))
total_one {T = T} (old ∷ olds) zero item within = let rest = total_nothing T olds in let sum = sum_by-cons length (item ∷ []) (nothing_for {T = T} olds) in omega (arith, rest, sum)
total_one {T = T} (old ∷ olds) (suc k) item within = let rest = total_one olds k item (omega (arith, within)) in let sum = sum_by-cons {X = List T} length [] (set (nothing_for {T = T} olds) k (item ∷ [])) in omega (arith, rest, sum)

-- ---- lanes

pub same_nothing : {A B : Type 0} (T : Type 0) (xs : List A) (ys : List B) → length xs ≡ length ys → nothing_for {A = A} {T = T} xs ≡ nothing_for {A = B} {T = T} ys
same_nothing T [] [] many = refl
same_nothing T [] (y ∷ ys) many = absurd (omega (arith, many))
same_nothing T (x ∷ xs) [] many = absurd (omega (arith, many))
same_nothing T (x ∷ xs) (y ∷ ys) many = ap (λ (l : List (List T)). [] ∷ l) (same_nothing T xs ys (omega (arith, many)))

pub turned_still : {J T : Type 0} (R : J → List T → J → Type 0) → ((x : J) → R x [] x) → (xs : List J) (k : ℕ) (x d : J) → R (get_or xs k d) [] x → AllTurned R xs (nothing_for xs) (set xs k x)
turned_still R starts [] k x d is = tt
turned_still R starts (a ∷ xs) zero x d is = (is, turned_same R starts xs)
turned_still R starts (a ∷ xs) (suc k) x d is = (starts a, turned_still R starts xs k x d is)

-- what is true of one that was written
pub here_set : {J : Type 0} (P : J → Type 0) (xs : List J) (k : ℕ) (x : J) → k < length xs → P x → (d : J) → P (get_or (set xs k x) k d)
here_set P xs k x within is d = subst P (sym (get_or-set_same xs k x d within)) is

pub set_again : {A : Type 0} (xs : List A) (k : ℕ) (x y d : A) → get_or xs k d ≡ y → set (set xs k x) k y ≡ xs
set_again [] k x y d is = refl
set_again (a ∷ xs) zero x y d is = ap (λ v. v ∷ xs) (sym is)
set_again (a ∷ xs) (suc k) x y d is = ap (λ l. a ∷ l) (set_again xs k x y d is)
