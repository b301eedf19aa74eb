-- The open branches behind one more entry, and behind a history.
use Rattle.std.proofs.Common.{◌≡◌, Bool, true, false, cond, not, ◌&&◌, ◌||◌, List, [], ◌∷◌, filter, find, Option, Some, None, is_some, if◌then◌else◌, ap, sym, refl, ◌∙◌, rules}
use Rattle.std.proofs.Math.Bool.{and-false}
use Rattle.std.specs.Cmp.{IsEquivalence}
use Rattle.std.specs.Cmp.Rules.{comparing}
use Rattle.std.specs.Ordering.{is_lt}
use Rattle.cdc_base.specs.declared.xid.Xid.{Xid}
use Rattle.cdc_model.specs.declared.entry.EntryKind.{EntryKind}
use Rattle.cdc_model.specs.declared.entry.EntryKind.TheVariants.{Prepare, OnePhase, Commit, Rollback, Plain, Beat}
use Rattle.cdc_model.specs.Records.{OpenBranch, Start}
use Rattle.cdc_base.specs.Xid.{same_xid, xid_order}
use Rattle.cdc_model.specs.Start.{find_open, without, enter, opened_by, left_by}
use Rattle.cdc_model.specs.Watermark.{verdict, verdict_or, OpenAsNewestSays}

pub same_xid_laws : IsEquivalence same_xid
same_xid_laws = search (comparing, rules) depth 9

-- ---- one element more, some elements fewer

pub found_first : {X : Type 0} (test : Bool) (x : X) (rest : Option X) → is_some (cond test (Some x) rest) ≡ (test || is_some rest)
found_first true x rest = refl
found_first false x rest = refl

-- what is looked for stands behind some others
pub found_behind : (first entered rest : Bool) → (first || (entered || rest)) ≡ (entered || (first || rest))
found_behind true true rest = refl
found_behind true false rest = refl
found_behind false entered rest = refl

pub found_entered_at : {X : Type 0} (test : X → Bool) (x first : X) (rest later : List X) (before : Bool)
    → is_some (find test later) ≡ (test x || is_some (find test rest))
    → is_some (find test (cond before (x ∷ first ∷ rest) (first ∷ later))) ≡ (test x || is_some (find test (first ∷ rest)))
found_entered_at test x first rest later true behind = found_first (test x) x (find test (first ∷ rest))
found_entered_at test x first rest later false behind =
    found_first (test first) first (find test later)
    ∙ ap (λ (b : Bool). test first || b) behind
    ∙ found_behind (test first) (test x) (is_some (find test rest))
    ∙ ap (λ (b : Bool). test x || b) (sym (found_first (test first) first (find test rest)))

-- an xid is open once its branch is entered
pub found_entered : (xid : Xid) (branch : OpenBranch) (opened : List OpenBranch)
    → is_some (find_open xid (enter branch opened)) ≡ (same_xid xid branch.xid || is_some (find_open xid opened))
found_entered xid branch [] = found_first (same_xid xid branch.xid) branch None
found_entered xid branch (first ∷ rest) =
    found_entered_at (λ o. same_xid xid o.xid) branch first rest (enter branch rest)
    (is_lt (xid_order branch.xid first.xid)) (found_entered xid branch rest)

-- whether the first of some elements is left out (`out`), is looked for (`here`), and whether what is left out is what is
-- looked for (`same`)
pub found_kept_at : (out here same rest : Bool) → (out ≡ true → here ≡ same) → (out ≡ false → same ≡ true → here ≡ false)
    → cond out (not same && rest) (here || (not same && rest)) ≡ (not same && (here || rest))
found_kept_at true true true rest is other = refl
found_kept_at true true false rest is other = absurd (let e = is refl in cc)
found_kept_at true false true rest is other = refl
found_kept_at true false false rest is other = refl
found_kept_at false here false rest is other = refl
found_kept_at false true true rest is other = absurd (let e = other refl refl in cc)
found_kept_at false false true rest is other = refl

pub found_kept_first : {X : Type 0} (test : X → Bool) (out : Bool) (x : X) (rest : List X)
    → is_some (find test (cond (not out) (x ∷ rest) rest)) ≡ cond out (is_some (find test rest)) (test x || is_some (find test rest))
found_kept_first test true x rest = refl
found_kept_first test false x rest = found_first (test x) x (find test rest)

-- without the elements that tie with another key, a key is found where it was and doesn't tie with it
pub found_without : {X K : Type 0} (same : K → K → Bool) → IsEquivalence same → (key : X → K) (k other : K) (xs : List X)
    → is_some (find (λ x. same k (key x)) (filter (λ x. not (same other (key x))) xs)) ≡ (not (same k other) && is_some (find (λ x. same k (key x)) xs))
found_without same laws key k other [] = sym (and-false (not (same k other)))
found_without same laws key k other (x ∷ xs) =
    let is : same other (key x) ≡ true → same k (key x) ≡ same k other =
    λ e. laws.symm k (key x) ∙ sym (laws.congr other (key x) k e) ∙ laws.symm other k in
    let differs : same other (key x) ≡ false → same k other ≡ true → same k (key x) ≡ false =
    λ e tie. laws.congr k other (key x) tie ∙ e in
    found_kept_first (λ x. same k (key x)) (same other (key x)) x (filter (λ x. not (same other (key x))) xs)
    ∙ ap (λ (b : Bool). cond (same other (key x)) b (same k (key x) || b)) (found_without same laws key k other xs)
    ∙ found_kept_at (same other (key x)) (same k (key x)) (same k other) (is_some (find (λ x. same k (key x)) xs)) is differs
    ∙ ap (λ (b : Bool). not (same k other) && b) (sym (found_first (same k (key x)) x (find (λ x. same k (key x)) xs)))

-- ---- the verdict of the newest entry

pub opens : (same before : Bool) → (same || (not same && before)) ≡ verdict_or (if same then Some true else None) before
opens true before = refl
opens false before = refl

pub ends : (same before : Bool) → (not same && before) ≡ verdict_or (if same then Some false else None) before
ends true before = refl
ends false before = refl

pub is_open_next : (xid : Xid) (kind : EntryKind) (start : Start)
    → is_some (find_open xid (opened_by kind start)) ≡ verdict_or (verdict xid kind) (is_some (find_open xid start.opened))
is_open_next xid (Prepare other rows) start =
    found_entered xid record { xid = other; floor = start.mark; entry = start.entry; rows = rows } (without other start.opened)
    ∙ ap (λ (b : Bool). same_xid xid other || b) (found_without same_xid same_xid_laws (λ (o : OpenBranch). o.xid) xid other start.opened)
    ∙ opens (same_xid xid other) (is_some (find_open xid start.opened))
is_open_next xid (OnePhase other rows timestamp seconds) start = refl
is_open_next xid (Commit other timestamp seconds) start =
    found_without same_xid same_xid_laws (λ (o : OpenBranch). o.xid) xid other start.opened
    ∙ ends (same_xid xid other) (is_some (find_open xid start.opened))
is_open_next xid (Rollback other) start =
    found_without same_xid same_xid_laws (λ (o : OpenBranch). o.xid) xid other start.opened
    ∙ ends (same_xid xid other) (is_some (find_open xid start.opened))
is_open_next xid (Plain rows seconds) start = refl
is_open_next xid (Beat timestamp) start = refl

pub open_as_newest_says : OpenAsNewestSays
open_as_newest_says xid start [] = refl
open_as_newest_says xid start (entry ∷ earlier) =
    is_open_next xid entry.kind (left_by start earlier)
    ∙ ap (verdict_or (verdict xid entry.kind)) (open_as_newest_says xid start earlier)
