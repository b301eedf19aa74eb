-- Lists put together lane by lane.
use Rattle.std.proofs.Common.{◌≡◌, ℕ, zero, suc, ◌+◌, ◌<◌, ◌≤◌, List, [], ◌∷◌, ◌++◌, length, get_or, set, refl, sym, ◌∙◌, ap, arith, zero-add, append_assoc, append-nil, length-append}
use Rattle.std.proofs.lemmas.List.Sums.{sum_by-cons}
use Rattle.cdc_turns.specs.Joined.{joined, total, nothing_for}

pub joined_nil : {T : Type 0} (lists : List (List T)) → joined lists [] ≡ lists
joined_nil [] = refl
joined_nil (items ∷ lists) = refl

pub joined_assoc : {T : Type 0} (a b c : List (List T)) → joined (joined a b) c ≡ joined a (joined b c)
joined_assoc [] b c = refl
joined_assoc (x ∷ xs) [] c = refl
joined_assoc (x ∷ xs) (y ∷ ys) [] = refl
joined_assoc (x ∷ xs) (y ∷ ys) (z ∷ zs) = ap (λ l. l ∷ joined (joined xs ys) zs) (append_assoc x y z) ∙ ap (λ l. (x ++ (y ++ z)) ∷ l) (joined_assoc xs ys zs)

pub total_joined : {T : Type 0} (a b : List (List T)) → total (joined a b) ≡ total a + total b
total_joined [] b = sym (zero-add (total b))
total_joined (x ∷ xs) [] = omega arith
total_joined (x ∷ xs) (y ∷ ys) = omega (arith, sum_by-cons length (x ++ y) (joined xs ys), sum_by-cons length x xs, sum_by-cons length y ys, length-append x y, total_joined xs ys)

pub joined_at : {T : Type 0} (a b : List (List T)) (k : ℕ) → get_or (joined a b) k [] ≡ get_or a k [] ++ get_or b k []
joined_at [] b k = refl
joined_at (x ∷ xs) [] k = sym (append-nil (get_or (x ∷ xs) k []))
joined_at (x ∷ xs) (y ∷ ys) zero = refl
joined_at (x ∷ xs) (y ∷ ys) (suc k) = joined_at xs ys k

-- items that go onto a lane are sent
pub joined_put : {T : Type 0} (takes ins : List (List T)) (k : ℕ) (items : List T) → k < length ins → set (joined takes ins) k (get_or (joined takes ins) k [] ++ items) ≡ joined takes (set ins k (get_or ins k [] ++ items))
joined_put [] ins k items within = refl
joined_put (x ∷ xs) [] k items within = absurd (omega (arith, within))
joined_put (x ∷ xs) (y ∷ ys) zero items within = ap (λ l. l ∷ joined xs ys) (append_assoc x y items)
joined_put (x ∷ xs) (y ∷ ys) (suc k) items within = ap (λ l. (x ++ y) ∷ l) (joined_put xs ys k items (omega (arith, within)))

-- items that come off a lane are taken
pub joined_move : {T : Type 0} (gets outs : List (List T)) (k : ℕ) (items later : List T) → k < length gets → k < length outs → get_or outs k [] ≡ items ++ later → joined gets outs ≡ joined (set gets k (get_or gets k [] ++ items)) (set outs k later)
joined_move [] outs k items later had within is = absurd (omega (arith, had))
joined_move (x ∷ xs) [] k items later had within is = absurd (omega (arith, within))
joined_move (x ∷ xs) (y ∷ ys) zero items later had within is = ap (λ l. (x ++ l) ∷ joined xs ys) is ∙ ap (λ l. l ∷ joined xs ys) (sym (append_assoc x items later))
joined_move (x ∷ xs) (y ∷ ys) (suc k) items later had within is = ap (λ l. (x ++ y) ∷ l) (joined_move xs ys k items later (omega (arith, had)) (omega (arith, within)) is)

-- what was taken is what was sent, where the lanes are empty
pub joined_empty : {T : Type 0} (takes ins : List (List T)) → length ins ≤ length takes → ((k : ℕ) → get_or ins k [] ≡ []) → joined takes ins ≡ takes
joined_empty [] [] within empty = refl
joined_empty [] (y ∷ ys) within empty = absurd (omega (arith, within))
joined_empty (x ∷ xs) [] within empty = refl
joined_empty (x ∷ xs) (y ∷ ys) within empty = ap (λ l. (x ++ l) ∷ joined xs ys) (empty zero) ∙ ap (λ l. l ∷ joined xs ys) (append-nil x) ∙ ap (λ l. x ∷ l) (joined_empty xs ys (omega (arith, within)) (λ k. empty (suc k)))

-- no item more
pub joined_nothing : {A T : Type 0} (lists : List (List T)) (olds : List A) → length olds ≡ length lists → joined lists (nothing_for olds) ≡ lists
joined_nothing [] [] long = refl
joined_nothing [] (old ∷ olds) long = absurd (omega (arith, long))
joined_nothing (x ∷ xs) [] long = refl
joined_nothing (x ∷ xs) (old ∷ olds) long = ap (λ l. l ∷ joined xs (nothing_for olds)) (append-nil x) ∙ ap (λ l. x ∷ l) (joined_nothing xs olds (omega (arith, long)))

-- items more on one lane alone
pub joined_one : {A T : Type 0} (lists : List (List T)) (olds : List A) (k : ℕ) (items : List T) → length olds ≡ length lists
    → set lists k (get_or lists k [] ++ items) ≡ joined lists (set (nothing_for olds) k items)
joined_one [] [] k items long = refl
joined_one [] (old ∷ olds) k items long = absurd (omega (arith, long))
joined_one (x ∷ xs) [] k items long = absurd (omega (arith, long))
joined_one (x ∷ xs) (old ∷ olds) zero items long = ap (λ l. (x ++ items) ∷ l) (sym (joined_nothing xs olds (omega (arith, long))))
joined_one (x ∷ xs) (old ∷ olds) (suc k) items long = ap (λ l. x ∷ l) (joined_one xs olds k items (omega (arith, long))) ∙ ap (λ l. l ∷ joined xs (set (nothing_for olds) k items)) (sym (append-nil x))
