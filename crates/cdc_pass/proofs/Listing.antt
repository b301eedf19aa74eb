-- Lists that are made or taken apart item by item.
use Rattle.std.proofs.Common.{◌≡◌, ℕ, zero, suc, ◌+◌, ◌<◌, List, [], ◌∷◌, ◌++◌, length, map, take, refl, sym, ◌∙◌, ap, subst, arith}
use Rattle.std.specs.Prelude.{remove, slice_index_or}
use Rattle.std.specs.List.{AllByRecursion}

-- what holds of all holds of the first
pub first_holds : {A : Type 0} (P : A → Type 0) (xs : List A) (x : A) → AllByRecursion P xs → 0 < length xs → x ≡ slice_index_or xs 0 x → P x
first_holds P [] x all some is = absurd (omega (arith, some))
first_holds P (a ∷ xs) x all some is = subst P (sym is) all.0

-- and of those behind it
pub rest_holds : {A : Type 0} (P : A → Type 0) (xs : List A) → AllByRecursion P xs → AllByRecursion P (remove xs 0)
rest_holds P [] all = tt
rest_holds P (a ∷ xs) all = all.1

-- as many of one item
pub same_many : {A B C : Type 0} (v : C) (xs : List A) (ys : List B) → length xs ≡ length ys → map (λ _. v) xs ≡ map (λ _. v) ys
same_many v [] [] long = refl
same_many v [] (y ∷ ys) long = absurd (omega (arith, long))
same_many v (x ∷ xs) [] long = absurd (omega (arith, long))
same_many v (x ∷ xs) (y ∷ ys) long = ap (λ items. v ∷ items) (same_many v xs ys (omega (arith, long)))

-- the first so many of one item, and one more
many_next : {A C : Type 0} (v : C) (xs : List A) (k : ℕ) → k < length xs → map (λ _. v) (take (suc k) xs) ≡ map (λ _. v) (take k xs) ++ v ∷ []
many_next v [] k within = absurd (omega (arith, within))
many_next v (x ∷ xs) zero within = refl
many_next v (x ∷ xs) (suc k) within = ap (λ items. v ∷ items) (many_next v xs k (omega (arith, within)))

-- one more of one item
pub one_more_of : {A C : Type 0} (v : C) (xs : List A) (k : ℕ) → k < length xs → map (λ _. v) (take (k + 1) xs) ≡ map (λ _. v) (take k xs) ++ v ∷ []
one_more_of {A} {C} v xs k within = subst (λ n. map (λ (_ : A). v) (take n xs) ≡ map (λ (_ : A). v) (take k xs) ++ v ∷ []) (let e : suc k ≡ k + 1 = omega arith in e) (many_next v xs k within)

-- one item more is one longer
pub length_more : {A : Type 0} (xs : List A) (x : A) → length (xs ++ x ∷ []) ≡ length xs + 1
length_more [] x = refl
length_more (a ∷ xs) x = let e = length_more xs x in omega (arith, e)

-- what was given back behind nothing
pub given_back : {A B : Type 0} (f : A → B) (news front : List B) (lent same : List A) → news ≡ front ++ map f lent → front ≡ [] → lent ≡ same → map f same ≡ news
given_back f news front lent same is none again = sym (is ∙ (ap (λ items. items ++ map f lent) none ∙ ap (λ items. map f items) again))
