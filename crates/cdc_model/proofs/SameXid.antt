-- Tests that hold, and xids that tie: they are one.
use Rattle.std.proofs.Common.{◌≡◌, ◌==◌, ◌&&◌, ℕ, Bool, true, false, List, [], ◌∷◌, ap, refl, ◌∙◌, nat_eq, arith}
use Rattle.std.proofs.lemmas.Bool.Decides.{nat_tests}
use Rattle.std.specs.Cmp.Lexicographic.{pointwise}
use Rattle.cdc_base.specs.declared.xid.Xid.{Xid}
use Rattle.cdc_base.specs.Xid.{same_xid}

pub no_test : false ≡ true → ⊥
no_test e = cc

pub both : (a b : Bool) → (a && b) ≡ true → (a ≡ true) × (b ≡ true)
both true true e = (refl, refl)
both true false e = absurd (no_test e)
both false b e = absurd (no_test e)

pub same_bytes : (xs ys : List ℕ) → pointwise nat_eq xs ys ≡ true → xs ≡ ys
same_bytes [] [] e = refl
same_bytes [] (y ∷ ys) e = absurd (no_test e)
same_bytes (x ∷ xs) [] e = absurd (no_test e)
same_bytes (x ∷ xs) (y ∷ ys) e =
    let parts = both (nat_eq x y) (pointwise nat_eq xs ys) e in
    let first : nat_eq x y ≡ true = parts.0 in
    let is : x ≡ y = grind (arith, nat_tests, first) in
    ap (λ (list : List ℕ). x ∷ list) (same_bytes xs ys parts.1) ∙ ap (λ (z : ℕ). z ∷ ys) is

abbrev pub xid_of : List ℕ → List ℕ → ℕ → Xid
xid_of gtrid bqual format = record { gtrid = gtrid; bqual = bqual; format = format }

pub same_xid_is : (x y : Xid) → same_xid x y ≡ true → x ≡ y
same_xid_is x y e =
    let parts = both (pointwise nat_eq x.gtrid y.gtrid) (pointwise nat_eq x.bqual y.bqual && x.format == y.format) e in
    let later = both (pointwise nat_eq x.bqual y.bqual) (x.format == y.format) parts.1 in
    let last : (x.format == y.format) ≡ true = later.1 in
    let format : x.format ≡ y.format = grind (arith, nat_tests, last) in
    ap (λ (g : List ℕ). xid_of g x.bqual x.format) (same_bytes x.gtrid y.gtrid parts.0)
    ∙ ap (λ (b : List ℕ). xid_of y.gtrid b x.format) (same_bytes x.bqual y.bqual later.0)
    ∙ ap (xid_of y.gtrid y.bqual) format
