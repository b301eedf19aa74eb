-- A branch's name says the same behind `XA START` and behind `XA END`.
use Rattle.std.proofs.Common.{◌≡◌, ℕ, ◌&&◌, Bool, true, false, List, [], ◌∷◌, Option, Some, None, IfSome, nat_eq, refl, ap, sym, ◌∙◌, arith}
use Rattle.std.specs.Prelude.{codes}
use Rattle.std.specs.Cmp.Lexicographic.{pointwise}
use Rattle.std.proofs.lemmas.Bool.Decides.{nat_tests}
use Rattle.cdc_base.specs.declared.xid.Xid.{Xid}
use Rattle.cdc_query.specs.declared.verb.Verb.TheVariants.{XaStart, XaEnd, XaOther}
use Rattle.cdc_query.specs.Words.{verb_of, xa_named, xid_of, unspaced}
use Rattle.cdc_group.specs.declared.known.Known.{Known}
use Rattle.cdc_group.specs.Known.{start_text, end_text, IsKnown}

no_test : false ≡ true → ⊥
no_test e = cc

both : (a b : Bool) → (a && b) ≡ true → (a ≡ true) × (b ≡ true)
both true true e = (refl, refl)
both true false e = absurd (no_test e)
both false b e = absurd (no_test e)

same_bytes : (xs ys : List ℕ) → pointwise nat_eq xs ys ≡ true → xs ≡ ys
same_bytes [] [] e = refl
same_bytes [] (y ∷ ys) e = absurd (no_test e)
same_bytes (x ∷ xs) [] e = absurd (no_test e)
same_bytes (x ∷ xs) (y ∷ ys) e =
    let parts = both (nat_eq x y) (pointwise nat_eq xs ys) e in
    let first : nat_eq x y ≡ true = parts.0 in
    let is : x ≡ y = grind (arith, nat_tests, first) in
    ap (λ (list : List ℕ). x ∷ list) (same_bytes xs ys parts.1) ∙ ap (λ (z : ℕ). z ∷ ys) is

no_branch : (xid : Xid) → XaOther ≡ XaStart xid → ⊥
no_branch xid e = cc

one_branch : (found xid : Xid) → XaStart found ≡ XaStart xid → found ≡ xid
one_branch found xid e = cc

some_branch : (found xid : Xid) → Some found ≡ Some xid → found ≡ xid
some_branch found xid e = cc

by_branch : (found : Option Xid) (xid : Xid) → xa_named (codes "START") found ≡ XaStart xid → xa_named (codes "END") found ≡ XaEnd xid
by_branch None xid e = absurd (no_branch xid e)
by_branch (Some found) xid e = ap (λ (branch : Xid). XaEnd branch) (one_branch found xid e)

ends_as_started : (name : List ℕ) (xid : Xid) → verb_of (start_text name) ≡ XaStart xid → verb_of (end_text name) ≡ XaEnd xid
ends_as_started name xid e = by_branch (xid_of (unspaced name)) xid e

-- none is known
pub none_known : (known : Known) → known.xid ≡ None → IsKnown known
none_known known none = λ xid some. absurd (let e : ◌≡◌ {A = Option Xid} None (Some xid) = sym none ∙ some in cc)

-- a branch is known by the text that starts it
pub start_known : (known : Known) (text name : List ℕ) (xid : Xid) → known.xid ≡ Some xid → known.name ≡ name → text ≡ start_text name
    → verb_of text ≡ XaStart xid → IsKnown known
start_known known text name xid is named begins e = λ other some.
    let ended : verb_of (end_text name) ≡ XaEnd xid = ends_as_started name xid (ap verb_of (sym begins) ∙ e) in
    let same : xid ≡ other = some_branch xid other (sym is ∙ some) in
    ap (λ (n : List ℕ). verb_of (end_text n)) named ∙ ended ∙ ap (λ (branch : Xid). XaEnd branch) same

-- and the text that ends its name ends it
pub known_ends : (known : Known) (text name : List ℕ) → IsKnown known → text ≡ end_text name → pointwise nat_eq name known.name ≡ true
    → IfSome known.xid (λ (xid : Xid). verb_of text ≡ XaEnd xid)
known_ends known text name knows ends same = by known.xid refl
  where
    by : (found : Option Xid) → known.xid ≡ found → IfSome found (λ (xid : Xid). verb_of text ≡ XaEnd xid)
    by None e = tt
    by (Some xid) e =
        ap verb_of ends ∙ ap (λ (n : List ℕ). verb_of (end_text n)) (same_bytes name known.name same) ∙ knows xid e
