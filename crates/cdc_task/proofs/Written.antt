-- Writing a list item by item.
use Rattle.std.proofs.Common.{◌≡◌, ℕ, zero, suc, ◌+◌, ◌<◌, List, [], ◌∷◌, ◌++◌, length, append_assoc, append-nil, take, get_or, ap, sym, subst, ◌∙◌, arith}
use Rattle.std.specs.List.{AllByRecursion, flat_map}
use Rattle.std.proofs.lemmas.List.{take_more}
use Rattle.std.proofs.Math.Seq.{take-length}
use Rattle.std.proofs.lemmas.List.Concat.{flat_map-append}

-- the first so many items are written behind some bytes, and fit
pub record IsWritten {X : Type 0} (bytes_of : X → List ℕ) (Fits : X → Type 0) (before : List ℕ) (list : List X) (count : ℕ) (bytes : List ℕ) : Type 0 where
  pub is : bytes ≡ before ++ flat_map bytes_of (take count list)
  pub each : AllByRecursion Fits (take count list)

pub nothing_written : {X : Type 0} (bytes_of : X → List ℕ) (Fits : X → Type 0) (before : List ℕ) (list : List X) → IsWritten bytes_of Fits before list 0 before
nothing_written bytes_of Fits before list = record { is = sym (append-nil before); each = tt }

pub all_with : {X : Type 0} (P : X → Type 0) (front : List X) (x : X) → AllByRecursion P front → P x → AllByRecursion P (front ++ x ∷ [])
all_with P [] x all here = (here, tt)
all_with P (y ∷ front) x (first, all) here = (first, all_with P front x all here)

pub one_written : {X : Type 0} (bytes_of : X → List ℕ) (Fits : X → Type 0) (before : List ℕ) (list : List X) (count : ℕ) (bytes more : List ℕ) (item : X)
    → count < length list → item ≡ get_or list count item → Fits item → more ≡ bytes ++ bytes_of item
    → IsWritten bytes_of Fits before list count bytes → IsWritten bytes_of Fits before list (count + 1) more
one_written {X} bytes_of Fits before list count bytes more item within is fits e so_far =
    let front : take (count + 1) list ≡ take count list ++ item ∷ [] =
    take_more list count item within ∙ ap (λ (x : X). take count list ++ x ∷ []) (sym is) in
    let all : flat_map bytes_of (take (count + 1) list) ≡ flat_map bytes_of (take count list) ++ bytes_of item =
    ap (flat_map bytes_of) front ∙ (flat_map-append bytes_of (take count list) (item ∷ []) ∙ ap (λ (l : List ℕ). flat_map bytes_of (take count list) ++ l) (append-nil (bytes_of item))) in
    record {
      is = e ∙ (ap (λ (l : List ℕ). l ++ bytes_of item) so_far.is ∙ (append_assoc before (flat_map bytes_of (take count list)) (bytes_of item) ∙ ap (λ (l : List ℕ). before ++ l) (sym all)));
      each = subst (AllByRecursion Fits) (sym front) (all_with Fits (take count list) item so_far.each fits);
    }

pub all_written : {X : Type 0} (bytes_of : X → List ℕ) (Fits : X → Type 0) (before : List ℕ) (list : List X) (count : ℕ) (bytes : List ℕ) → count ≡ length list
    → IsWritten bytes_of Fits before list count bytes → (bytes ≡ before ++ flat_map bytes_of list) × AllByRecursion Fits list
all_written {X} bytes_of Fits before list count bytes size so_far =
    let whole : take count list ≡ list = ap (λ (n : ℕ). take n list) size ∙ take-length list in
    (so_far.is ∙ ap (λ (l : List X). before ++ flat_map bytes_of l) whole, subst (AllByRecursion Fits) whole so_far.each)

-- a fact of each item is one of the item at a place
pub at_place : {X : Type 0} (P : X → Type 0) (list : List X) (i : ℕ) (d : X) → i < length list → AllByRecursion P list → P (get_or list i d)
at_place P [] i d within all = absurd (omega (arith, within))
at_place P (x ∷ list) zero d within (here, all) = here
at_place P (x ∷ list) (suc i) d within (here, all) = at_place P list i d (omega (arith, within)) all
