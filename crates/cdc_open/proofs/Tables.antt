-- The table of open branches, as its map changes.
use Rattle.std.proofs.Common.{◌≡◌, ℕ, ◌+◌, Bor, Bool, true, false, not, cond, List, [], ◌∷◌, length, map, Option, Some, None, ap, sym, subst, refl, ◌∙◌, arith}
use Rattle.std.specs.BTreeMap.{is_at, insert_entry}
use Rattle.std.specs.List.{AllByRecursion}
use Rattle.std.specs.List.Sorted.{IsStrictlySortedBy}
use Rattle.std.specs.Map.{keys_of, lookup, remove_entry}
use Rattle.std.specs.Option.{option_map, option_copied, IfSome, IfNone}
use Rattle.std.specs.Ordering.{nat_cmp, is_eq, is_lt, match_ordering, ordering_reverse}
use Rattle.std.specs.declared.cmp.Ordering.{Ordering}
use Rattle.std.specs.declared.cmp.Ordering.TheVariants.{Less, Equal, Greater}
use Rattle.cdc_base.specs.declared.xid.Xid.{Xid}
use Rattle.cdc_base.specs.Xid.{same_xid, xid_order}
use Rattle.cdc_model.specs.Records.{OpenBranch}
use Rattle.cdc_model.specs.Start.{find_open}
use Rattle.cdc_model.proofs.OpenBranches.{same_xid_laws}
use Rattle.cdc_model.proofs.SameXid.{no_test, same_xid_is}
use Rattle.cdc_model.proofs.XidOrder.{xid_order_total, tied}
use Rattle.cdc_open.specs.declared.xid_key.XidKey.{XidKey}
use Rattle.cdc_open.specs.Standing.{Prepared, StandingBranch, standing_of, branches_of, find_standing, without_standing, enter_standing}
use Rattle.cdc_open.specs.Floors.{times_in}
use Rattle.cdc_open.specs.Table.{standing_list, floors_of}

abbrev pub key_order_of : XidKey → XidKey → Ordering
key_order_of a b = xid_order a.xid b.xid

-- ---- xids

pub xid_itself : (x : Xid) → xid_order x x ≡ Equal
xid_itself x = by (xid_order x x) refl
  where
    by : (o : Ordering) → xid_order x x ≡ o → o ≡ Equal
    by Less e = absurd (let back : Less ≡ Greater = sym e ∙ xid_order_total.antisymm x x ∙ ap ordering_reverse e in cc)
    by Equal e = refl
    by Greater e = absurd (let back : Greater ≡ Less = sym e ∙ xid_order_total.antisymm x x ∙ ap ordering_reverse e in cc)

pub not_below_itself : (x : Xid) → xid_order x x ≡ Less → ⊥
not_below_itself x e = let back : Less ≡ Equal = sym e ∙ xid_itself x in cc

-- xids tie exactly where they are the same
pub tie_same : (x y : Xid) → is_eq (xid_order x y) ≡ same_xid x y
tie_same x y = by (xid_order x y) refl (same_xid x y) refl
  where
    differ : (o : Ordering) → xid_order x y ≡ o → same_xid x y ≡ true → o ≡ Equal
    differ o e same = sym e ∙ ap (xid_order x) (sym (same_xid_is x y same)) ∙ xid_itself x

    by : (o : Ordering) → xid_order x y ≡ o → (b : Bool) → same_xid x y ≡ b → is_eq o ≡ b
    by Less e true same = absurd (let clash : Less ≡ Equal = differ Less e same in cc)
    by Less e false same = refl
    by Equal e true same = refl
    by Equal e false same = absurd (no_test (sym same ∙ ap (same_xid x) (sym (tied x y e)) ∙ same_xid_laws.refl x))
    by Greater e true same = absurd (let clash : Greater ≡ Equal = differ Greater e same in cc)
    by Greater e false same = refl

-- ---- finding

pub found_is : (key : XidKey) (entries : List (XidKey × Prepared)) → option_map (standing_of key.xid) (lookup (is_at (key_order_of key)) entries) ≡ find_standing key.xid (standing_list entries)
found_is key [] = refl
found_is key (e ∷ entries) =
    ap (λ (b : Bool). option_map (standing_of key.xid) (cond b (Some e.1) (lookup (is_at (key_order_of key)) entries))) (tie_same key.xid e.0.xid)
    ∙ by (same_xid key.xid e.0.xid) refl (found_is key entries)
  where
    by : (b : Bool) → same_xid key.xid e.0.xid ≡ b → option_map (standing_of key.xid) (lookup (is_at (key_order_of key)) entries) ≡ find_standing key.xid (standing_list entries)
        → option_map (standing_of key.xid) (cond b (Some e.1) (lookup (is_at (key_order_of key)) entries)) ≡ cond b (Some (standing_of e.0.xid e.1)) (find_standing key.xid (standing_list entries))
    by true same later = ap (λ (x : Xid). Some (standing_of x e.1)) (same_xid_is key.xid e.0.xid same)
    by false same later = later

pub find_is : (xid : Xid) (standing : List StandingBranch) → option_map (λ (s : StandingBranch). s.branch) (find_standing xid standing) ≡ find_open xid (branches_of standing)
find_is xid [] = refl
find_is xid (first ∷ rest) = by (same_xid xid first.branch.xid) (find_is xid rest)
  where
    by : (b : Bool) → option_map (λ (s : StandingBranch). s.branch) (find_standing xid rest) ≡ find_open xid (branches_of rest)
        → option_map (λ (s : StandingBranch). s.branch) (cond b (Some first) (find_standing xid rest)) ≡ cond b (Some first.branch) (find_open xid (branches_of rest))
    by true later = refl
    by false later = later

pub none_standing : (xid : Xid) (standing : List StandingBranch) → find_open xid (branches_of standing) ≡ None → find_standing xid standing ≡ None
none_standing xid standing none = by (find_standing xid standing) (find_is xid standing ∙ none)
  where
    by : (found : Option StandingBranch) → option_map (λ (s : StandingBranch). s.branch) found ≡ None → found ≡ None
    by None is = refl
    by (Some s) is = absurd (cc)

-- what a look-up lends is the branch that is found, and none where none is
pub found_some : (xid : Xid) (lent : Option (Bor Prepared)) (found : Option StandingBranch) → option_map (standing_of xid) (option_copied lent) ≡ found
    → IfSome lent (λ (p : Bor Prepared). found ≡ Some (standing_of xid p.now))
found_some xid None found is = tt
found_some xid (Some p) found is = sym is

pub found_none : (xid : Xid) (lent : Option (Bor Prepared)) (found : Option StandingBranch) → option_map (standing_of xid) (option_copied lent) ≡ found → IfNone lent (found ≡ None)
found_none xid None found is = sym is
found_none xid (Some p) found is = tt

pub open_some : (xid : Xid) (lent : Option (Bor Prepared)) (standing : List StandingBranch) → option_map (standing_of xid) (option_copied lent) ≡ find_standing xid standing
    → IfSome lent (λ (p : Bor Prepared). find_open xid (branches_of standing) ≡ Some (standing_of xid p.now).branch)
open_some xid None standing is = tt
open_some xid (Some p) standing is = sym (find_is xid standing) ∙ ap (option_map (λ (s : StandingBranch). s.branch)) (sym is)

pub open_none : (xid : Xid) (lent : Option (Bor Prepared)) (standing : List StandingBranch) → option_map (standing_of xid) (option_copied lent) ≡ find_standing xid standing
    → IfNone lent (find_open xid (branches_of standing) ≡ None)
open_none xid None standing is = sym (find_is xid standing) ∙ ap (option_map (λ (s : StandingBranch). s.branch)) (sym is)
open_none xid (Some p) standing is = tt

-- ---- opening

none_first : (key : XidKey) (e : XidKey × Prepared) (entries : List (XidKey × Prepared)) → find_standing key.xid (standing_list (e ∷ entries)) ≡ None → same_xid key.xid e.0.xid ≡ false
none_first key e entries none = by (same_xid key.xid e.0.xid) none
  where
    by : (b : Bool) → cond b (Some (standing_of e.0.xid e.1)) (find_standing key.xid (standing_list entries)) ≡ None → b ≡ false
    by true is = absurd (cc)
    by false is = refl

none_later : (key : XidKey) (e : XidKey × Prepared) (entries : List (XidKey × Prepared)) → find_standing key.xid (standing_list (e ∷ entries)) ≡ None → find_standing key.xid (standing_list entries) ≡ None
none_later key e entries none = by (same_xid key.xid e.0.xid) none
  where
    by : (b : Bool) → cond b (Some (standing_of e.0.xid e.1)) (find_standing key.xid (standing_list entries)) ≡ None → find_standing key.xid (standing_list entries) ≡ None
    by true is = absurd (cc)
    by false is = is

clash_of : (key : XidKey) (e : XidKey × Prepared) → same_xid key.xid e.0.xid ≡ false → xid_order key.xid e.0.xid ≡ Equal → ⊥
clash_of key e differs is = no_test (sym differs ∙ sym (tie_same key.xid e.0.xid) ∙ ap is_eq is)

pub opened_list : (key : XidKey) (p : Prepared) (entries : List (XidKey × Prepared)) → find_standing key.xid (standing_list entries) ≡ None
    → standing_list (insert_entry key_order_of entries key p) ≡ enter_standing (standing_of key.xid p) (standing_list entries)
opened_list key p [] none = refl
opened_list key p (e ∷ entries) none =
    by (xid_order key.xid e.0.xid) refl (clash_of key e (none_first key e entries none)) (opened_list key p entries (none_later key e entries none))
  where
    by : (o : Ordering) → xid_order key.xid e.0.xid ≡ o → (xid_order key.xid e.0.xid ≡ Equal → ⊥)
        → standing_list (insert_entry key_order_of entries key p) ≡ enter_standing (standing_of key.xid p) (standing_list entries)
        → standing_list (match_ordering o ((key, p) ∷ e ∷ entries) ((e.0, p) ∷ entries) (e ∷ insert_entry key_order_of entries key p))
        ≡ cond (is_lt o) (standing_of key.xid p ∷ standing_of e.0.xid e.1 ∷ standing_list entries) (standing_of e.0.xid e.1 ∷ enter_standing (standing_of key.xid p) (standing_list entries))
    by Less is clash later = refl
    by Equal is clash later = absurd (clash is)
    by Greater is clash later = ap (λ (list : List StandingBranch). standing_of e.0.xid e.1 ∷ list) later

swapped : (a b n : ℕ) → a + (b + n) ≡ b + (a + n)
swapped a b n = omega arith

pub opened_floors : (number : ℕ) (key : XidKey) (p : Prepared) (entries : List (XidKey × Prepared)) → find_standing key.xid (standing_list entries) ≡ None
    → times_in number (p.floor ∷ floors_of entries) ≡ times_in number (floors_of (insert_entry key_order_of entries key p))
opened_floors number key p [] none = refl
opened_floors number key p (e ∷ entries) none =
    by (xid_order key.xid e.0.xid) refl (clash_of key e (none_first key e entries none)) (opened_floors number key p entries (none_later key e entries none))
  where
    by : (o : Ordering) → xid_order key.xid e.0.xid ≡ o → (xid_order key.xid e.0.xid ≡ Equal → ⊥)
        → times_in number (p.floor ∷ floors_of entries) ≡ times_in number (floors_of (insert_entry key_order_of entries key p))
        → times_in number (p.floor ∷ e.1.floor ∷ floors_of entries)
        ≡ times_in number (floors_of (match_ordering o ((key, p) ∷ e ∷ entries) ((e.0, p) ∷ entries) (e ∷ insert_entry key_order_of entries key p)))
    by Less is clash later = refl
    by Equal is clash later = absurd (clash is)
    by Greater is clash later =
        swapped (cond (is_at (nat_cmp p.floor) number) 1 0) (cond (is_at (nat_cmp e.1.floor) number) 1 0) (times_in number (floors_of entries))
        ∙ ap (λ (n : ℕ). cond (is_at (nat_cmp e.1.floor) number) 1 0 + n) later

-- ---- ending

abbrev AreBelow : Xid → List (XidKey × Prepared) → Type 0
AreBelow xid entries = AllByRecursion (λ (k : XidKey). xid_order xid k.xid ≡ Less) (keys_of entries)

none_same : (xid first : Xid) (entries : List (XidKey × Prepared)) → same_xid xid first ≡ true → AreBelow first entries → without_standing xid (standing_list entries) ≡ standing_list entries
none_same xid first [] same below = refl
none_same xid first (e ∷ entries) same (here, below) = by (same_xid xid e.0.xid) refl (none_same xid first entries same below)
  where
    by : (b : Bool) → same_xid xid e.0.xid ≡ b → without_standing xid (standing_list entries) ≡ standing_list entries
        → cond (not b) (standing_of e.0.xid e.1 ∷ without_standing xid (standing_list entries)) (without_standing xid (standing_list entries)) ≡ standing_of e.0.xid e.1 ∷ standing_list entries
    by true is later =
        let one : e.0.xid ≡ first = sym (same_xid_is xid e.0.xid is) ∙ same_xid_is xid first same in
        absurd (not_below_itself first (subst (λ (x : Xid). xid_order first x ≡ Less) one here))
    by false is later = ap (λ (list : List StandingBranch). standing_of e.0.xid e.1 ∷ list) later

pub ended_list : (key : XidKey) (entries : List (XidKey × Prepared)) → IsStrictlySortedBy key_order_of (keys_of entries)
    → standing_list (remove_entry (is_at (key_order_of key)) entries) ≡ without_standing key.xid (standing_list entries)
unfolding IsStrictlySortedBy
ended_list key [] sorted = refl
ended_list key (e ∷ entries) (below, sorted) =
    ap (λ (b : Bool). standing_list (cond b entries (e ∷ remove_entry (is_at (key_order_of key)) entries))) (tie_same key.xid e.0.xid)
    ∙ by (same_xid key.xid e.0.xid) refl (ended_list key entries sorted)
  where
    by : (b : Bool) → same_xid key.xid e.0.xid ≡ b → standing_list (remove_entry (is_at (key_order_of key)) entries) ≡ without_standing key.xid (standing_list entries)
        → standing_list (cond b entries (e ∷ remove_entry (is_at (key_order_of key)) entries))
        ≡ cond (not b) (standing_of e.0.xid e.1 ∷ without_standing key.xid (standing_list entries)) (without_standing key.xid (standing_list entries))
    by true same later = sym (none_same key.xid e.0.xid entries same below)
    by false same later = ap (λ (list : List StandingBranch). standing_of e.0.xid e.1 ∷ list) later

pub ended_floors : (number : ℕ) (test : XidKey → Bool) (p : Prepared) (entries : List (XidKey × Prepared)) → lookup test entries ≡ Some p
    → times_in number (floors_of entries) ≡ times_in number (p.floor ∷ floors_of (remove_entry test entries))
ended_floors number test p [] is = absurd (cc)
ended_floors number test p (e ∷ entries) is = by (test e.0) is (ended_floors number test p entries)
  where
    by : (b : Bool) → cond b (Some e.1) (lookup test entries) ≡ Some p
        → (lookup test entries ≡ Some p → times_in number (floors_of entries) ≡ times_in number (p.floor ∷ floors_of (remove_entry test entries)))
        → times_in number (e.1.floor ∷ floors_of entries) ≡ times_in number (p.floor ∷ floors_of (cond b entries (e ∷ remove_entry test entries)))
    by true found later = let same : e.1 ≡ p = cc in ap (λ (q : Prepared). times_in number (q.floor ∷ floors_of entries)) same
    by false found later =
        ap (λ (n : ℕ). cond (is_at (nat_cmp e.1.floor) number) 1 0 + n) (later found)
        ∙ swapped (cond (is_at (nat_cmp e.1.floor) number) 1 0) (cond (is_at (nat_cmp p.floor) number) 1 0) (times_in number (floors_of (remove_entry test entries)))

-- ---- the least floor

pub floors_are : (entries : List (XidKey × Prepared)) → floors_of entries ≡ map (λ (b : OpenBranch). b.floor) (branches_of (standing_list entries))
floors_are [] = refl
floors_are (e ∷ entries) = ap (λ (list : List ℕ). e.1.floor ∷ list) (floors_are entries)

pub count_floors : (entries : List (XidKey × Prepared)) → length (floors_of entries) ≡ length entries
count_floors [] = refl
count_floors (e ∷ entries) = omega (arith, count_floors entries)

pub count_standing : (entries : List (XidKey × Prepared)) → length (standing_list entries) ≡ length entries
count_standing [] = refl
count_standing (e ∷ entries) = omega (arith, count_standing entries)
