-- The open branches stay in order of their xids.
use Rattle.std.proofs.Common.{◌≡◌, ◌<◌, ℕ, inl, inr, Bool, true, false, not, cond, List, [], ◌∷◌, filter, ap, sym, refl, ◌∙◌, rules, arith}
use Rattle.std.specs.List.{AllByRecursion}
use Rattle.std.specs.Ordering.{nat_cmp, ordering_then, ordering_reverse, is_lt}
use Rattle.std.specs.Cmp.{IsTotalOrder}
use Rattle.std.specs.Cmp.Rules.{comparing}
use Rattle.std.specs.Cmp.Lexicographic.{slice_cmp}
use Rattle.std.specs.declared.cmp.Ordering.{Ordering}
use Rattle.std.specs.declared.cmp.Ordering.TheVariants.{Less, Equal, Greater}
use Rattle.std.proofs.lemmas.Bool.Decides.{nat_tests}
use Rattle.std.proofs.lemmas.Map.Lookups.{exact_unsigned, exact_bytes}
use Rattle.cdc_base.specs.declared.xid.Xid.{Xid}
use Rattle.cdc_base.specs.Xid.{same_xid, xid_order}
use Rattle.cdc_model.specs.declared.entry.EntryKind.{EntryKind}
use Rattle.cdc_model.specs.declared.entry.EntryKind.TheVariants.{Prepare, OnePhase, Commit, Rollback, Plain, Beat}
use Rattle.cdc_model.specs.Records.{OpenBranch, Start}
use Rattle.cdc_model.specs.Start.{without, enter, opened_by, left_by}
use Rattle.cdc_model.specs.Openings.{IsXidBelow, AscendByXid, OpenBranchesAscend}
use Rattle.cdc_model.proofs.OpenBranches.{same_xid_laws}
use Rattle.cdc_model.proofs.SameXid.{no_test, xid_of}

pub xid_order_total : IsTotalOrder xid_order
xid_order_total = search (comparing, rules) depth 9

-- ---- the order of xids, and its words

pub number_below : (a b : ℕ) → nat_cmp a b ≡ Less → a < b
number_below a b e = grind (arith, nat_tests, e)

pub below_number : (a b : ℕ) → a < b → nat_cmp a b ≡ Less
below_number a b h = grind (arith, nat_tests, h)

-- by the orders of their parts
pub below_by : (x y : Xid) (id qualifier : Ordering) → slice_cmp nat_cmp x.gtrid y.gtrid ≡ id → slice_cmp nat_cmp x.bqual y.bqual ≡ qualifier
    → ordering_then id (ordering_then qualifier (nat_cmp x.format y.format)) ≡ Less → IsXidBelow x y
below_by x y Less qualifier p q e = inl p
below_by x y Greater qualifier p q e = absurd (let f : Greater ≡ Less = e in cc)
below_by x y Equal Less p q e = inr (inl (exact_bytes x.gtrid y.gtrid p, q))
below_by x y Equal Greater p q e = absurd (let f : Greater ≡ Less = e in cc)
below_by x y Equal Equal p q e =
    inr (inr (exact_bytes x.gtrid y.gtrid p, exact_bytes x.bqual y.bqual q, number_below x.format y.format e))

pub ordered_by : (x y : Xid) (id qualifier : Ordering) → slice_cmp nat_cmp x.gtrid y.gtrid ≡ id → slice_cmp nat_cmp x.bqual y.bqual ≡ qualifier
    → xid_order x y ≡ ordering_then id (ordering_then qualifier (nat_cmp x.format y.format))
ordered_by x y id qualifier p q =
    ap (λ (o : Ordering). ordering_then o (ordering_then (slice_cmp nat_cmp x.bqual y.bqual) (nat_cmp x.format y.format))) p
    ∙ ap (λ (o : Ordering). ordering_then id (ordering_then o (nat_cmp x.format y.format))) q

pub is_below : (x y : Xid) → xid_order x y ≡ Less → IsXidBelow x y
is_below x y e =
    below_by x y (slice_cmp nat_cmp x.gtrid y.gtrid) (slice_cmp nat_cmp x.bqual y.bqual) refl refl
    (sym (ordered_by x y (slice_cmp nat_cmp x.gtrid y.gtrid) (slice_cmp nat_cmp x.bqual y.bqual) refl refl) ∙ e)

pub itself : IsTotalOrder (slice_cmp nat_cmp)
itself = search (comparing, rules) depth 9

pub ties_itself : {X : Type 0} (order : X → X → Ordering) → IsTotalOrder order → (x : X) (o : Ordering) → order x x ≡ o → o ≡ Equal
ties_itself order total x Less is = absurd (let back : Less ≡ Greater = sym is ∙ total.antisymm x x ∙ ap ordering_reverse is in cc)
ties_itself order total x Equal is = refl
ties_itself order total x Greater is = absurd (let back : Greater ≡ Less = sym is ∙ total.antisymm x x ∙ ap ordering_reverse is in cc)

pub ties : (xs ys : List ℕ) → xs ≡ ys → slice_cmp nat_cmp xs ys ≡ Equal
ties xs ys is =
    ap (λ (list : List ℕ). slice_cmp nat_cmp list ys) is ∙ ties_itself (slice_cmp nat_cmp) itself ys (slice_cmp nat_cmp ys ys) refl

pub is_ordered : (x y : Xid) → IsXidBelow x y → xid_order x y ≡ Less
is_ordered x y (inl p) = ordered_by x y Less (slice_cmp nat_cmp x.bqual y.bqual) p refl
is_ordered x y (inr (inl (p, q))) = ordered_by x y Equal Less (ties x.gtrid y.gtrid p) q
is_ordered x y (inr (inr (p, q, r))) =
    ordered_by x y Equal Equal (ties x.gtrid y.gtrid p) (ties x.bqual y.bqual q) ∙ below_number x.format y.format r

-- xids that tie are one
pub tied_by : (x y : Xid) (id qualifier : Ordering) → slice_cmp nat_cmp x.gtrid y.gtrid ≡ id → slice_cmp nat_cmp x.bqual y.bqual ≡ qualifier
    → ordering_then id (ordering_then qualifier (nat_cmp x.format y.format)) ≡ Equal → x ≡ y
tied_by x y Less qualifier p q e = absurd (let f : Less ≡ Equal = e in cc)
tied_by x y Greater qualifier p q e = absurd (let f : Greater ≡ Equal = e in cc)
tied_by x y Equal Less p q e = absurd (let f : Less ≡ Equal = e in cc)
tied_by x y Equal Greater p q e = absurd (let f : Greater ≡ Equal = e in cc)
tied_by x y Equal Equal p q e =
    ap (λ (g : List ℕ). xid_of g x.bqual x.format) (exact_bytes x.gtrid y.gtrid p)
    ∙ ap (λ (b : List ℕ). xid_of y.gtrid b x.format) (exact_bytes x.bqual y.bqual q)
    ∙ ap (xid_of y.gtrid y.bqual) (exact_unsigned x.format y.format e)

pub tied : (x y : Xid) → xid_order x y ≡ Equal → x ≡ y
tied x y e =
    tied_by x y (slice_cmp nat_cmp x.gtrid y.gtrid) (slice_cmp nat_cmp x.bqual y.bqual) refl refl
    (sym (ordered_by x y (slice_cmp nat_cmp x.gtrid y.gtrid) (slice_cmp nat_cmp x.bqual y.bqual) refl refl) ∙ e)

pub below_on : (x y z : Xid) → IsXidBelow x y → IsXidBelow y z → IsXidBelow x z
below_on x y z a b = is_below x z (xid_order_total.trans x y z (is_ordered x y a) (is_ordered y z b))

-- an xid that isn't below another, and isn't it, is above it
pub above_by : (x y : Xid) (o : Ordering) → xid_order x y ≡ o → is_lt o ≡ false → same_xid x y ≡ false → IsXidBelow y x
above_by x y Less is fails differs = absurd (no_test (sym fails))
above_by x y Equal is fails differs =
    absurd (no_test (sym differs ∙ ap (same_xid x) (sym (tied x y is)) ∙ same_xid_laws.refl x))
above_by x y Greater is fails differs = is_below y x (xid_order_total.antisymm y x ∙ ap ordering_reverse is)

pub lesser_by : (x y : Xid) (o : Ordering) → xid_order x y ≡ o → is_lt o ≡ true → IsXidBelow x y
lesser_by x y Less is yet = is_below x y is
lesser_by x y Equal is yet = absurd (no_test yet)
lesser_by x y Greater is yet = absurd (no_test yet)

-- ---- a list of branches

abbrev IsBelowEach : Xid → List OpenBranch → Type 0
IsBelowEach xid branches = AllByRecursion (λ (other : OpenBranch). IsXidBelow xid other.xid) branches

abbrev IsNone : Xid → List OpenBranch → Type 0
IsNone xid branches = AllByRecursion (λ (other : OpenBranch). same_xid xid other.xid ≡ false) branches

pub all_filtered : {X : Type 0} (P : X → Type 0) (test : X → Bool) (xs : List X) → AllByRecursion P xs → AllByRecursion P (filter test xs)
all_filtered P test [] all = tt
all_filtered {X} P test (x ∷ xs) (here, all) = by (test x) (all_filtered P test xs all)
  where
    by : (b : Bool) → AllByRecursion P (filter test xs) → AllByRecursion P (cond b (x ∷ filter test xs) (filter test xs))
    by true later = (here, later)
    by false later = later

pub ascend_filtered : (test : OpenBranch → Bool) (branches : List OpenBranch) → AscendByXid branches → AscendByXid (filter test branches)
ascend_filtered test [] ascend = tt
ascend_filtered test (branch ∷ rest) (below, ascend) = by (test branch) (ascend_filtered test rest ascend)
  where
    by : (b : Bool) → AscendByXid (filter test rest) → AscendByXid (cond b (branch ∷ filter test rest) (filter test rest))
    by true later = (all_filtered (λ (other : OpenBranch). IsXidBelow branch.xid other.xid) test rest below, later)
    by false later = later

pub none_left : (xid : Xid) (branches : List OpenBranch) → IsNone xid (without xid branches)
none_left xid [] = tt
none_left xid (branch ∷ rest) = by (same_xid xid branch.xid) refl (none_left xid rest)
  where
    by : (b : Bool) → same_xid xid branch.xid ≡ b → IsNone xid (without xid rest)
        → IsNone xid (cond (not b) (branch ∷ without xid rest) (without xid rest))
    by true is later = later
    by false is later = (is, later)

pub below_rest : (xid other : Xid) (branches : List OpenBranch) → IsXidBelow xid other → IsBelowEach other branches → IsBelowEach xid branches
below_rest xid other [] is all = tt
below_rest xid other (branch ∷ rest) is (here, all) = (below_on xid other branch.xid is here, below_rest xid other rest is all)

pub below_entered : (xid : Xid) (branch : OpenBranch) (branches : List OpenBranch) → IsXidBelow xid branch.xid → IsBelowEach xid branches
    → IsBelowEach xid (enter branch branches)
below_entered xid branch [] is all = (is, tt)
below_entered xid branch (first ∷ rest) is (here, all) = by (is_lt (xid_order branch.xid first.xid)) (below_entered xid branch rest is all)
  where
    by : (b : Bool) → IsBelowEach xid (enter branch rest) → IsBelowEach xid (cond b (branch ∷ first ∷ rest) (first ∷ enter branch rest))
    by true later = (is, (here, all))
    by false later = (here, later)

pub ascend_entered : (branch : OpenBranch) (branches : List OpenBranch) → IsNone branch.xid branches → AscendByXid branches → AscendByXid (enter branch branches)
ascend_entered branch [] none ascend = (tt, tt)
ascend_entered branch (first ∷ rest) (differs, none) (below, ascend) =
    by (is_lt (xid_order branch.xid first.xid)) refl (ascend_entered branch rest none ascend)
  where
    by : (b : Bool) → is_lt (xid_order branch.xid first.xid) ≡ b → AscendByXid (enter branch rest)
        → AscendByXid (cond b (branch ∷ first ∷ rest) (first ∷ enter branch rest))
    by true is later =
        let here = lesser_by branch.xid first.xid (xid_order branch.xid first.xid) refl is in
        ((here, below_rest branch.xid first.xid rest here below), (below, ascend))
    by false is later =
        let here = above_by branch.xid first.xid (xid_order branch.xid first.xid) refl is differs in
        (below_entered first.xid branch rest here below, later)

-- ---- one entry, and a history

pub ascend_without : (xid : Xid) (branches : List OpenBranch) → AscendByXid branches → AscendByXid (without xid branches)
ascend_without xid branches ascend = ascend_filtered (λ (o : OpenBranch). not (same_xid xid o.xid)) branches ascend

pub ascend_next : (kind : EntryKind) (start : Start) → AscendByXid start.opened → AscendByXid (opened_by kind start)
ascend_next (Prepare xid rows) start ascend =
    ascend_entered (record { xid = xid; floor = start.mark; entry = start.entry; rows = rows }) (without xid start.opened)
    (none_left xid start.opened) (ascend_without xid start.opened ascend)
ascend_next (OnePhase xid rows timestamp seconds) start ascend = ascend
ascend_next (Commit xid timestamp seconds) start ascend = ascend_without xid start.opened ascend
ascend_next (Rollback xid) start ascend = ascend_without xid start.opened ascend
ascend_next (Plain rows seconds) start ascend = ascend
ascend_next (Beat timestamp) start ascend = ascend

pub open_branches_ascend : OpenBranchesAscend
open_branches_ascend start [] ascend = ascend
open_branches_ascend start (entry ∷ earlier) ascend = ascend_next entry.kind (left_by start earlier) (open_branches_ascend start earlier ascend)
