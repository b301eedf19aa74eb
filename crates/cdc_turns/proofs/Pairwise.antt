-- A relation between two lists, pair by pair.
use Rattle.std.proofs.Common.{◌≡◌, ℕ, zero, suc, ◌<◌, List, [], ◌∷◌, length, get_or, set, map, refl, sym, ◌∙◌, ap, arith}
use Rattle.std.specs.List.{AllZip}
use Rattle.std.proofs.lemmas.List.{map-set, set-get_or, get_or-map, get_or-set_same, length-map}

pub zip_at : {A B : Type 0} (R : A → B → Type 0) (xs : List A) (ys : List B) (k : ℕ) (d : A) (e : B) → AllZip R xs ys → k < length xs → R (get_or xs k d) (get_or ys k e)
zip_at R [] [] k d e all within = absurd (omega (arith, within))
zip_at R [] (y ∷ ys) k d e all within = absurd all
zip_at R (x ∷ xs) [] k d e all within = absurd all
zip_at R (x ∷ xs) (y ∷ ys) zero d e all within = all.0
zip_at R (x ∷ xs) (y ∷ ys) (suc k) d e all within = zip_at R xs ys k d e all.1 (omega (arith, within))

pub zip_long : {A B : Type 0} (R : A → B → Type 0) (xs : List A) (ys : List B) → AllZip R xs ys → length xs ≡ length ys
zip_long R [] [] all = refl
zip_long R [] (y ∷ ys) all = absurd all
zip_long R (x ∷ xs) [] all = absurd all
zip_long R (x ∷ xs) (y ∷ ys) all = ap (λ n. suc n) (zip_long R xs ys all.1)

pub zip_set : {A B : Type 0} (R : A → B → Type 0) (xs : List A) (ys : List B) (k : ℕ) (x : A) (y : B) → AllZip R xs ys → R x y → AllZip R (set xs k x) (set ys k y)
zip_set R [] [] k x y all is = all
zip_set R [] (b ∷ ys) k x y all is = absurd all
zip_set R (a ∷ xs) [] k x y all is = absurd all
zip_set R (a ∷ xs) (b ∷ ys) zero x y all is = (is, all.1)
zip_set R (a ∷ xs) (b ∷ ys) (suc k) x y all is = (all.0, zip_set R xs ys k x y all.1 is)

pub zip_same : {A : Type 0} (R : A → A → Type 0) → ((x : A) → R x x) → (xs : List A) → AllZip R xs xs
zip_same R starts [] = tt
zip_same R starts (x ∷ xs) = (starts x, zip_same R starts xs)

pub zip_set_one : {A : Type 0} (R : A → A → Type 0) → ((x : A) → R x x) → (xs : List A) (k : ℕ) (x d : A) → R (get_or xs k d) x → AllZip R xs (set xs k x)
zip_set_one R starts [] k x d is = tt
zip_set_one R starts (a ∷ xs) zero x d is = (is, zip_same R starts xs)
zip_set_one R starts (a ∷ xs) (suc k) x d is = (starts a, zip_set_one R starts xs k x d is)

pub zip_then : {A : Type 0} (R : A → A → Type 0) → ((x y z : A) → R x y → R y z → R x z) → (xs ys zs : List A) → AllZip R xs ys → AllZip R ys zs → AllZip R xs zs
zip_then R adds [] [] [] p q = tt
zip_then R adds [] [] (z ∷ zs) p q = absurd q
zip_then R adds [] (y ∷ ys) zs p q = absurd p
zip_then R adds (x ∷ xs) [] zs p q = absurd p
zip_then R adds (x ∷ xs) (y ∷ ys) [] p q = absurd q
zip_then R adds (x ∷ xs) (y ∷ ys) (z ∷ zs) p q = (adds x y z p.0 q.0, zip_then R adds xs ys zs p.1 q.1)

-- one relation after another
pub zip_over : {A B : Type 0} (S : A → A → Type 0) (P Q : A → B → Type 0) → ((x y : A) (b : B) → S x y → P x b → Q y b) → (xs ys : List A) (bs : List B) → AllZip S xs ys → AllZip P xs bs → AllZip Q ys bs
zip_over S P Q step [] [] [] s p = tt
zip_over S P Q step [] [] (b ∷ bs) s p = absurd p
zip_over S P Q step [] (y ∷ ys) bs s p = absurd s
zip_over S P Q step (x ∷ xs) [] bs s p = absurd s
zip_over S P Q step (x ∷ xs) (y ∷ ys) [] s p = absurd p
zip_over S P Q step (x ∷ xs) (y ∷ ys) (b ∷ bs) s p = (step x y b s.0 p.0, zip_over S P Q step xs ys bs s.1 p.1)

pub zip_seen : {A B C : Type 0} (f : A → C) (P : A → B → Type 0) (Q : C → B → Type 0) → ((x : A) (b : B) → P x b → Q (f x) b) → (xs : List A) (bs : List B) → AllZip P xs bs → AllZip Q (map f xs) bs
zip_seen f P Q step [] [] p = tt
zip_seen f P Q step [] (b ∷ bs) p = absurd p
zip_seen f P Q step (x ∷ xs) [] p = absurd p
zip_seen f P Q step (x ∷ xs) (b ∷ bs) p = (step x b p.0, zip_seen f P Q step xs bs p.1)

pub zip_by_index : {A : Type 0} (R : A → A → Type 0) (xs ys : List A) → length ys ≡ length xs → ((k : ℕ) (d : A) → k < length xs → R (get_or xs k d) (get_or ys k d)) → AllZip R xs ys
zip_by_index R [] [] long each = tt
zip_by_index R [] (y ∷ ys) long each = absurd (omega (arith, long))
zip_by_index R (x ∷ xs) [] long each = absurd (omega (arith, long))
zip_by_index R (x ∷ xs) (y ∷ ys) long each = (each zero x (omega arith), zip_by_index R xs ys (omega (arith, long)) (λ k d within. each (suc k) d (omega (arith, within))))

-- a write that leaves what is seen
pub map_set_same : {A B : Type 0} (f : A → B) (xs : List A) (k : ℕ) (x d : A) → k < length xs → f x ≡ f (get_or xs k d) → map f (set xs k x) ≡ map f xs
map_set_same f xs k x d within is =
    map-set f xs k x
    ∙ ap (λ v. set (map f xs) k v) (is ∙ sym (get_or-map f xs k d (f x) within))
    ∙ set-get_or (map f xs) k (f x)

-- what is seen at a place that was written
pub map_set_at : {A B : Type 0} (f : A → B) (xs : List A) (k : ℕ) (x : A) (e : B) → k < length xs → get_or (map f (set xs k x)) k e ≡ f x
map_set_at f xs k x e within =
    ap (λ l. get_or l k e) (map-set f xs k x) ∙ get_or-set_same (map f xs) k (f x) e (let long = length-map xs f in omega (arith, within, long))
