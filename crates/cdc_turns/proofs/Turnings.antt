-- Jobs that become others by items, place by place.
use Rattle.std.proofs.Common.{◌≡◌, ℕ, zero, suc, ◌<◌, List, [], ◌∷◌, ◌++◌, length, get_or, set, arith}
use Rattle.cdc_turns.specs.Joined.{joined, nothing_for, AllTurned}

pub turned_same : {J T : Type 0} (R : J → List T → J → Type 0) → ((x : J) → R x [] x) → (xs : List J) → AllTurned R xs (nothing_for xs) xs
turned_same R starts [] = tt
turned_same R starts (x ∷ xs) = (starts x, turned_same R starts xs)

pub turned_one : {J T : Type 0} (R : J → List T → J → Type 0) → ((x : J) → R x [] x) → (xs : List J) (k : ℕ) (items : List T) (x d : J) → R (get_or xs k d) items x → AllTurned R xs (set (nothing_for xs) k items) (set xs k x)
turned_one R starts [] k items x d is = tt
turned_one R starts (a ∷ xs) zero items x d is = (is, turned_same R starts xs)
turned_one R starts (a ∷ xs) (suc k) items x d is = (starts a, turned_one R starts xs k items x d is)

pub turned_then : {J T : Type 0} (R : J → List T → J → Type 0) → ((x y z : J) (p q : List T) → R x p y → R y q z → R x (p ++ q) z) → (xs ys zs : List J) (ps qs : List (List T)) → AllTurned R xs ps ys → AllTurned R ys qs zs → AllTurned R xs (joined ps qs) zs
turned_then R adds [] [] [] [] [] s t = tt
turned_then R adds [] [] (z ∷ zs) [] [] s t = absurd t
turned_then R adds [] [] zs [] (q ∷ qs) s t = absurd t
turned_then R adds [] (y ∷ ys) zs [] qs s t = absurd s
turned_then R adds [] ys zs (p ∷ ps) qs s t = absurd s
turned_then R adds (x ∷ xs) ys zs [] qs s t = absurd s
turned_then R adds (x ∷ xs) [] zs (p ∷ ps) qs s t = absurd s
turned_then R adds (x ∷ xs) (y ∷ ys) zs (p ∷ ps) [] s t = absurd t
turned_then R adds (x ∷ xs) (y ∷ ys) [] (p ∷ ps) (q ∷ qs) s t = absurd t
turned_then R adds (x ∷ xs) (y ∷ ys) (z ∷ zs) (p ∷ ps) (q ∷ qs) s t = (adds x y z p q s.0 t.0, turned_then R adds xs ys zs ps qs s.1 t.1)

pub turned_by_index : {J T : Type 0} (R : J → List T → J → Type 0) (xs ys : List J) → length ys ≡ length xs → ((k : ℕ) (d : J) → k < length xs → R (get_or xs k d) [] (get_or ys k d)) → AllTurned R xs (nothing_for xs) ys
turned_by_index R [] [] long each = tt
turned_by_index R [] (y ∷ ys) long each = absurd (omega (arith, long))
turned_by_index R (x ∷ xs) [] long each = absurd (omega (arith, long))
turned_by_index R (x ∷ xs) (y ∷ ys) long each = (each zero x (omega arith), turned_by_index R xs ys (omega (arith, long)) (λ k d within. each (suc k) d (omega (arith, within))))
