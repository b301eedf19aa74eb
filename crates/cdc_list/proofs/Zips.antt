-- Two lists item by item.
use Rattle.std.proofs.Common.{◌≡◌, ℕ, zero, suc, ◌<◌, ◌≤◌, List, [], ◌∷◌, ◌++◌, length, map, take, get_or, ap, sym, refl, subst, arith}
use Rattle.std.proofs.Math.ListN.{set}
use Rattle.std.specs.List.{AllByRecursion, AllZip}
use Rattle.cdc_list.specs.Listing.{AllLater}

module _ {D : Type 0} (R : D → D → Type 0) where
  -- nothing was done yet
  pub zip_yet : ((x : D) → R x x) → (xs : List D) → AllZip R xs xs
  zip_yet same [] = tt
  zip_yet same (x ∷ xs) = (same x, zip_yet same xs)

  -- one item was replaced
  pub zip_set : ((x : D) → R x x) → (xs : List D) (index : ℕ) (old new : D) → old ≡ get_or xs index old → R old new → AllZip R xs (set xs index new)
  zip_set same [] index old new is step = tt
  zip_set same (x ∷ xs) zero old new is step = (subst (λ (y : D). R y new) is step, zip_yet same xs)
  zip_set same (x ∷ xs) (suc index) old new is step = (same x, zip_set same xs index old new is step)

  -- one run behind another
  pub zip_both : ((x y z : D) → R x y → R y z → R x z) → (xs ys zs : List D) → AllZip R xs ys → AllZip R ys zs → AllZip R xs zs
  zip_both both [] [] [] a b = tt
  zip_both both [] [] (z ∷ zs) a b = absurd b
  zip_both both [] (y ∷ ys) zs a b = absurd a
  zip_both both (x ∷ xs) [] zs a b = absurd a
  zip_both both (x ∷ xs) (y ∷ ys) [] a b = absurd b
  zip_both both (x ∷ xs) (y ∷ ys) (z ∷ zs) a b = (both x y z a.0 b.0, zip_both both xs ys zs a.1 b.1)

  -- as many
  pub zip_many : (xs ys : List D) → AllZip R xs ys → length ys ≡ length xs
  zip_many [] [] a = refl
  zip_many [] (y ∷ ys) a = absurd a
  zip_many (x ∷ xs) [] a = absurd a
  zip_many (x ∷ xs) (y ∷ ys) a = ap (λ (n : ℕ). suc n) (zip_many xs ys a.1)

  -- what each item keeps
  pub zip_same : {A : Type 0} (f : D → A) → ((x y : D) → R x y → f y ≡ f x) → (xs ys : List D) → AllZip R xs ys → map f ys ≡ map f xs
  zip_same f keeps [] [] a = refl
  zip_same f keeps [] (y ∷ ys) a = absurd a
  zip_same f keeps (x ∷ xs) [] a = absurd a
  zip_same f keeps (x ∷ xs) (y ∷ ys) a = λ i. keeps x y a.0 i ∷ zip_same f keeps xs ys a.1 i

module _ {A B : Type 0} (R : A → B → Type 0) where
  -- one item more at the end of both
  pub zip_push : (xs : List A) (ys : List B) (x : A) (y : B) → AllZip R xs ys → R x y → AllZip R (xs ++ x ∷ []) (ys ++ y ∷ [])
  zip_push [] [] x y all one = (one, tt)
  zip_push [] (z ∷ ys) x y all one = absurd all
  zip_push (z ∷ xs) [] x y all one = absurd all
  zip_push (w ∷ xs) (z ∷ ys) x y all one = (all.0, zip_push xs ys x y all.1 one)

  -- an item of the first list
  pub zip_at : (xs : List A) (ys : List B) (n index : ℕ) (d : A) → AllZip R (take n xs) ys → index < n → n ≤ length xs → (y : B) × R (get_or xs index d) y
  zip_at [] ys n index d all below upto = absurd (omega (arith, below, upto))
  zip_at (x ∷ xs) ys zero index d all below upto = absurd (omega (arith, below))
  zip_at (x ∷ xs) [] (suc n) index d all below upto = absurd all
  zip_at (x ∷ xs) (y ∷ ys) (suc n) zero d all below upto = (y, all.0)
  zip_at (x ∷ xs) (y ∷ ys) (suc n) (suc index) d all below upto = zip_at xs ys n index d all.1 (omega (arith, below)) (omega (arith, upto))

  -- each item of the first list has one of the second
  pub zip_each : (xs : List A) (ys : List B) → AllZip R xs ys → AllByRecursion (λ (x : A). (y : B) × R x y) xs
  zip_each [] [] all = tt
  zip_each [] (y ∷ ys) all = absurd all
  zip_each (x ∷ xs) [] all = absurd all
  zip_each (x ∷ xs) (y ∷ ys) all = ((y, all.0), zip_each xs ys all.1)

-- one item more at the end
pub all_push : {A : Type 0} (P : A → Type 0) (xs : List A) (x : A) → AllByRecursion P xs → P x → AllByRecursion P (xs ++ x ∷ [])
all_push P [] x all one = (one, tt)
all_push P (y ∷ xs) x all one = (all.0, all_push P xs x all.1 one)

-- the item at an index
pub all_at : {A : Type 0} (P : A → Type 0) (xs : List A) (index : ℕ) (x : A) → AllByRecursion P xs → index < length xs → x ≡ get_or xs index x → P x
all_at P [] index x all below is = absurd (omega (arith, below))
all_at P (y ∷ xs) zero x all below is = subst (λ (z : _). P z) (sym is) all.0
all_at P (y ∷ xs) (suc index) x all below is = all_at P xs index x all.1 (omega (arith, below)) is

-- no count fell
pub later_both : {D : Type 0} (faults : D → ℕ) (xs ys zs : List D) → AllLater faults xs ys → AllLater faults ys zs → AllLater faults xs zs
later_both {D} faults xs ys zs a b = zip_both (λ (old new : D). faults old ≤ faults new) (λ x y z first second. omega (arith, first, second)) xs ys zs a b

pub later_yet : {D : Type 0} (faults : D → ℕ) (xs : List D) → AllLater faults xs xs
later_yet {D} faults xs = zip_yet (λ (old new : D). faults old ≤ faults new) (λ x. omega arith) xs

pub later_set : {D : Type 0} (faults : D → ℕ) (xs : List D) (index : ℕ) (old new : D) → old ≡ get_or xs index old → faults old ≤ faults new → AllLater faults xs (set xs index new)
later_set {D} faults xs index old new is step = zip_set (λ (a b : D). faults a ≤ faults b) (λ x. omega arith) xs index old new is step

pub later_at : {D : Type 0} (faults : D → ℕ) (xs ys : List D) (index : ℕ) → AllLater faults xs ys → get_or (map faults xs) index 0 ≤ get_or (map faults ys) index 0
later_at faults [] [] index a = omega arith
later_at faults [] (y ∷ ys) index a = absurd a
later_at faults (x ∷ xs) [] index a = absurd a
later_at faults (x ∷ xs) (y ∷ ys) zero a = a.0
later_at faults (x ∷ xs) (y ∷ ys) (suc index) a = later_at faults xs ys index a.1
