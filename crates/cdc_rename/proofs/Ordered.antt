-- Lists in strict order of a key: what a search finds in one, and what an insertion leaves.
use Rattle.std.proofs.Common.{◌≡◌, ℕ, zero, suc, ◌<◌, ◌≤◌, Bool, true, false, cond, List, [], ◌∷◌, length, get_or, map, Some, None, refl, sym, ◌∙◌, ap, arith, add-one}
use Rattle.std.specs.List.{find, insert, AllByRecursion}
use Rattle.std.specs.List.Sorted.{IsStrictlySortedBy, IsSortedBy}
use Rattle.std.specs.Ordering.{is_eq, is_lt, ordering_reverse}
use Rattle.std.specs.Cmp.{IsTotalOrder}
use Rattle.std.proofs.lemmas.Cmp.{alike_right}
use Rattle.std.specs.declared.cmp.Ordering.{Ordering}
use Rattle.std.specs.declared.cmp.Ordering.TheVariants.{Less, Equal, Greater}

-- two tests that don't both pass may be asked in either order
either_first : {X : Type 0} (a b : Bool) (u v w z : X) → (b ≡ true → a ≡ false) → z ≡ cond b v w → cond a u z ≡ cond b v (cond a u w)
either_first true true u v w z apart same = let e : true ≡ false = apart refl in absurd (cc)
either_first true false u v w z apart same = refl
either_first false true u v w z apart same = same
either_first false false u v w z apart same = same

only_equal : (r : Ordering) → is_eq r ≡ true → r ≡ Equal
only_equal Less e = absurd (cc)
only_equal Equal e = refl
only_equal Greater e = absurd (cc)

-- what holds of all elements, and of one more, holds of all after its insertion
pub all_insert : {X : Type 0} (P : X → Type 0) (xs : List X) (i : ℕ) (x : X) → AllByRecursion P xs → P x → AllByRecursion P (insert xs i x)
all_insert P xs zero x all one = (one, all)
all_insert P [] (suc i) x all one = (one, all)
all_insert P (y ∷ ys) (suc i) x all one = (all.0, all_insert P ys i x all.1 one)

pub all_at : {X : Type 0} (P : X → Type 0) (xs : List X) (k : ℕ) (d : X) → AllByRecursion P xs → k < length xs → P (get_or xs k d)
all_at P [] k d all lt = absurd (omega arith)
all_at P (y ∷ ys) zero d all lt = all.0
all_at P (y ∷ ys) (suc k) d all lt = all_at P ys k d all.1 (omega arith)

module _ {X K : Type 0} (key : X → K) where
  all_keys_insert : (P : K → Type 0) (xs : List X) (i : ℕ) (x : X) → AllByRecursion P (map key xs) → P (key x) → AllByRecursion P (map key (insert xs i x))
  all_keys_insert P xs zero x all one = (one, all)
  all_keys_insert P [] (suc i) x all one = (one, all)
  all_keys_insert P (y ∷ ys) (suc i) x all one = (all.0, all_keys_insert P ys i x all.1 one)

  all_keys : (P : K → Type 0) (xs : List X) → ((k : ℕ) (d : X) → k < length xs → P (key (get_or xs k d))) → AllByRecursion P (map key xs)
  all_keys P [] each = tt
  all_keys P (y ∷ ys) each = (each 0 y (omega arith), all_keys P ys (λ k d lt. each (suc k) d (omega arith)))

  key_at : (P : K → Type 0) (xs : List X) (k : ℕ) (d : X) → AllByRecursion P (map key xs) → k < length xs → P (key (get_or xs k d))
  key_at P [] k d all lt = absurd (omega arith)
  key_at P (y ∷ ys) zero d all lt = all.0
  key_at P (y ∷ ys) (suc k) d all lt = key_at P ys k d all.1 (omega arith)

  module _ {R : K → K → Ordering} (o : IsTotalOrder R) where
    -- whether an element's key ties with q
    abbrev pub has_key : K → X → Bool
    has_key q x = is_eq (R (key x) q)

    -- what is less than x is less than what ties with x
    less_too : (x y q : K) → R x y ≡ Less → R y q ≡ Equal → R x q ≡ Less
    less_too x y q less equal = sym (alike_right o y q x equal) ∙ less

    -- the element whose key ties with q is the one that is found
    pub find_at : (xs : List X) → IsStrictlySortedBy R (map key xs) → (q : K) (i : ℕ) (d : X) → i < length xs → R (key (get_or xs i d)) q ≡ Equal → find (has_key q) xs ≡ Some (get_or xs i d)
    unfolding IsStrictlySortedBy
    find_at [] sorted q i d lt equal = absurd (omega arith)
    find_at (y ∷ ys) sorted q zero d lt equal = rw equal refl
    find_at (y ∷ ys) sorted q (suc i) d lt equal =
        let first : R (key y) (key (get_or ys i d)) ≡ Less = key_at (λ k. R (key y) k ≡ Less) ys i d sorted.0 (omega arith) in
        let less : R (key y) q ≡ Less = less_too _ _ _ first equal in
        rw less (find_at ys sorted.1 q i d (omega arith) equal)

    -- where no key ties with q none is found
    pub find_none : (xs : List X) (q : K) → ((k : ℕ) (d : X) → k < length xs → has_key q (get_or xs k d) ≡ false) → find (has_key q) xs ≡ None
    find_none [] q none = refl
    find_none (y ∷ ys) q none =
        let not_first : has_key q y ≡ false = none 0 y (omega arith) in
        rw not_first (find_none ys q (λ k d lt. none (suc k) d (omega arith)))

    -- behind lesser keys, a new element is found by its key, and every other as before
    pub find_insert : (xs : List X) (i : ℕ) (x : X) (q : K) → ((k : ℕ) (d : X) → k < i → i ≤ length xs → R (key (get_or xs k d)) (key x) ≡ Less) → i ≤ length xs → find (has_key q) (insert xs i x) ≡ cond (has_key q x) (Some x) (find (has_key q) xs)
    find_insert xs zero x q lesser within = refl
    find_insert [] (suc i) x q lesser within = absurd (omega arith)
    find_insert (y ∷ ys) (suc i) x q lesser within =
        let first : R (key y) (key x) ≡ Less = lesser 0 y (omega arith) within in
        either_first (has_key q y) (has_key q x) _ _ _ _
        (λ same. ap is_eq (less_too _ _ _ first (only_equal _ same)))
        (find_insert ys i x q (λ k d lt le. lesser (suc k) d (omega arith) within) (omega arith))

    -- a new element between lesser and greater keys keeps the order
    pub sorted_insert : (xs : List X) (i : ℕ) (x : X) → IsStrictlySortedBy R (map key xs) → i ≤ length xs
        → ((k : ℕ) (d : X) → k < i → R (key (get_or xs k d)) (key x) ≡ Less)
        → ((k : ℕ) (d : X) → i ≤ k → k < length xs → R (key (get_or xs k d)) (key x) ≡ Greater)
        → IsStrictlySortedBy R (map key (insert xs i x))
    unfolding IsStrictlySortedBy
    sorted_insert xs zero x sorted within lesser greater =
        (all_keys (λ k. R (key x) k ≡ Less) xs (λ k d lt. o.antisymm _ _ ∙ ap ordering_reverse (greater k d (omega arith) lt)), sorted)
    sorted_insert [] (suc i) x sorted within lesser greater = absurd (omega arith)
    sorted_insert (y ∷ ys) (suc i) x sorted within lesser greater = (
      all_keys_insert (λ k. R (key y) k ≡ Less) ys i x sorted.0 (lesser 0 y (omega arith)),
      sorted_insert ys i x sorted.1 (omega arith) (λ k d lt. lesser (suc k) d (omega arith)) (λ k d le lt. greater (suc k) d (omega arith) (omega arith)),
    )

    -- neighbours rise
    next_above : (xs : List X) → IsStrictlySortedBy R (map key xs) → (k : ℕ) (d : X) → suc k < length xs → R (key (get_or xs k d)) (key (get_or xs (suc k) d)) ≡ Less
    unfolding IsStrictlySortedBy
    next_above [] sorted k d lt = absurd (omega arith)
    next_above (y ∷ ys) sorted zero d lt = key_at (λ k. R (key y) k ≡ Less) ys 0 d sorted.0 (omega arith)
    next_above (y ∷ ys) sorted (suc k) d lt = next_above ys sorted.1 k d (omega arith)

    -- strict order is order
    pub is_sorted : (xs : List X) → IsStrictlySortedBy R (map key xs) → IsSortedBy (λ a b. is_lt (R (key a) (key b))) xs
    is_sorted xs sorted k d low lt =
        rw add-one (ap is_lt (o.antisymm _ _ ∙ ap ordering_reverse (next_above xs sorted k d (omega arith))))
