-- The branches that stood open before an entry, while a reading goes on.
use Rattle.std.proofs.Common.{◌≡◌, ◌≤◌, ◌<◌, ◌&&◌, ℕ, Bool, true, false, not, cond, ltb, leb, List, [], ◌∷◌, ◌++◌, map, filter, Some, ap, sym, subst, refl, ◌∙◌}
use Rattle.std.specs.List.{AllByRecursion}
use Rattle.std.specs.Ordering.{is_lt, ordering_reverse, match_ordering}
use Rattle.std.specs.BTreeMap.{insert_entry}
use Rattle.std.specs.declared.cmp.Ordering.{Ordering}
use Rattle.std.specs.declared.cmp.Ordering.TheVariants.{Less, Greater}
use Rattle.std.proofs.lemmas.Bool.{lt-ltb, le-ltb, le-leb, lt-leb}
use Rattle.cdc_base.specs.declared.xid.Xid.{Xid}
use Rattle.cdc_base.specs.Xid.{same_xid, xid_order}
use Rattle.cdc_model.specs.Records.{OpenBranch}
use Rattle.cdc_model.specs.Start.{find_open, without, enter}
use Rattle.cdc_model.specs.Openings.{IsXidBelow, AscendByXid}
use Rattle.cdc_model.specs.Restart.{held_of}
use Rattle.cdc_model.proofs.SameXid.{same_xid_is}
use Rattle.cdc_model.proofs.XidOrder.{xid_order_total, is_ordered}
use Rattle.cdc_model.proofs.RestartPoints.{found_all}
use Rattle.cdc_sorter.specs.Trail.{EndedBranch, stood_before, put_open, with_ended, held_now, held_at}

-- ---- the order of xids

pub below_turned : (x y : Xid) → IsXidBelow x y → xid_order y x ≡ Greater
below_turned x y below = xid_order_total.antisymm y x ∙ ap ordering_reverse (is_ordered x y below)

pub not_itself : (x : Xid) → IsXidBelow x x → ⊥
not_itself x below = let clash : Less ≡ Greater = sym (is_ordered x x below) ∙ below_turned x x below in cc

-- an xid that is below another isn't the same
differs : (xid x y : Xid) → same_xid xid x ≡ true → IsXidBelow x y → same_xid xid y ≡ false
differs xid x y same below = by (same_xid xid y) refl
  where
    by : (b : Bool) → same_xid xid y ≡ b → same_xid xid y ≡ false
    by true e = absurd (not_itself x (subst (IsXidBelow x) (sym (same_xid_is xid y e) ∙ same_xid_is xid x same) below))
    by false e = e

-- ---- entering

-- a branch that is opened later doesn't stand open before an entry
pub now_entered : (number : ℕ) (branch : OpenBranch) (opened : List OpenBranch) → number ≤ branch.entry → held_now number (enter branch opened) ≡ held_now number opened
now_entered number branch [] h = ap (λ (b : Bool). map held_of (cond b (branch ∷ []) [])) (le-ltb branch.entry number h)
now_entered number branch (first ∷ rest) h = by (is_lt (xid_order branch.xid first.xid)) (now_entered number branch rest h)
  where
    front : held_now number (branch ∷ first ∷ rest) ≡ held_now number (first ∷ rest)
    front =
        ap (λ (b : Bool). map held_of (cond b (branch ∷ filter (λ (o : OpenBranch). ltb o.entry number) (first ∷ rest)) (filter (λ (o : OpenBranch). ltb o.entry number) (first ∷ rest))))
        (le-ltb branch.entry number h)

    behind : (b : Bool) → held_now number (enter branch rest) ≡ held_now number rest
        → map held_of (cond b (first ∷ filter (λ (o : OpenBranch). ltb o.entry number) (enter branch rest)) (filter (λ (o : OpenBranch). ltb o.entry number) (enter branch rest)))
        ≡ map held_of (cond b (first ∷ filter (λ (o : OpenBranch). ltb o.entry number) rest) (filter (λ (o : OpenBranch). ltb o.entry number) rest))
    behind true later = ap (λ (list : List (Xid × ℕ)). held_of first ∷ list) later
    behind false later = later

    by : (b : Bool) → held_now number (enter branch rest) ≡ held_now number rest
        → held_now number (cond b (branch ∷ first ∷ rest) (first ∷ enter branch rest)) ≡ held_now number (first ∷ rest)
    by true later = front
    by false later = behind (ltb first.entry number) later

-- behind all Prepares, what is open is what stands open
pub now_all : (number : ℕ) (opened : List OpenBranch) → AllByRecursion (λ (o : OpenBranch). o.entry < number) opened → held_now number opened ≡ map held_of opened
now_all number [] all = refl
now_all number (first ∷ rest) (here, all) =
    ap (λ (b : Bool). map held_of (cond b (first ∷ filter (λ (o : OpenBranch). ltb o.entry number) rest) (filter (λ (o : OpenBranch). ltb o.entry number) rest)))
    (lt-ltb first.entry number here)
    ∙ ap (λ (list : List (Xid × ℕ)). held_of first ∷ list) (now_all number rest all)

-- ---- ending

ended_early : (number : ℕ) (e : EndedBranch) (b : Bool) → e.ended < number → (b && leb number e.ended) ≡ false
ended_early number e true h = lt-leb number e.ended h
ended_early number e false h = refl

-- behind all ends, none of them stands open
pub ended_none : (number : ℕ) (ended : List EndedBranch) (held : List (Xid × ℕ)) → AllByRecursion (λ (e : EndedBranch). e.ended < number) ended → with_ended number ended held ≡ held
ended_none number [] held all = refl
ended_none number (e ∷ ended) held (here, all) =
    ap (λ (b : Bool). cond b (insert_entry xid_order (with_ended number ended held) e.xid e.floor) (with_ended number ended held))
    (ended_early number e (ltb e.entry number) here)
    ∙ ended_none number ended held all

-- the last that ended is entered first
pub ended_append : (number : ℕ) (ended : List EndedBranch) (e : EndedBranch) (held : List (Xid × ℕ))
    → with_ended number (ended ++ e ∷ []) held ≡ with_ended number ended (with_ended number (e ∷ []) held)
ended_append number [] e held = refl
ended_append number (first ∷ ended) e held =
    ap (λ (list : List (Xid × ℕ)). cond (stood_before number first) (insert_entry xid_order list first.xid first.floor) list) (ended_append number ended e held)

-- pairs with an xid below all others come first
front_inserted : (branch : OpenBranch) (number : ℕ) (opened : List OpenBranch) → AllByRecursion (λ (other : OpenBranch). IsXidBelow branch.xid other.xid) opened
    → insert_entry xid_order (held_now number opened) branch.xid branch.floor ≡ held_of branch ∷ held_now number opened
front_inserted branch number [] all = refl
front_inserted branch number (first ∷ rest) (here, all) = by (ltb first.entry number) (front_inserted branch number rest all)
  where
    by : (b : Bool) → insert_entry xid_order (held_now number rest) branch.xid branch.floor ≡ held_of branch ∷ held_now number rest
        → insert_entry xid_order (map held_of (cond b (first ∷ filter (λ (o : OpenBranch). ltb o.entry number) rest) (filter (λ (o : OpenBranch). ltb o.entry number) rest))) branch.xid branch.floor
        ≡ held_of branch ∷ map held_of (cond b (first ∷ filter (λ (o : OpenBranch). ltb o.entry number) rest) (filter (λ (o : OpenBranch). ltb o.entry number) rest))
    by true later =
        ap (λ (o : Ordering). match_ordering o (held_of branch ∷ held_of first ∷ held_now number rest)
        ((first.xid, branch.floor) ∷ held_now number rest)
        (held_of first ∷ insert_entry xid_order (held_now number rest) branch.xid branch.floor))
        (is_ordered branch.xid first.xid here)
    by false later = later

-- the others are all left
others_left : (xid : Xid) (branch : OpenBranch) (opened : List OpenBranch) → same_xid xid branch.xid ≡ true
    → AllByRecursion (λ (other : OpenBranch). IsXidBelow branch.xid other.xid) opened → without xid opened ≡ opened
others_left xid branch [] same all = refl
others_left xid branch (first ∷ rest) same (here, all) =
    ap (λ (b : Bool). cond (not b) (first ∷ without xid rest) (without xid rest)) (differs xid branch.xid first.xid same here)
    ∙ ap (λ (list : List OpenBranch). first ∷ list) (others_left xid branch rest same all)

put_first : (number : ℕ) (branch : OpenBranch) (rest : List OpenBranch) → AllByRecursion (λ (other : OpenBranch). IsXidBelow branch.xid other.xid) rest
    → put_open number branch (held_now number rest) ≡ held_now number (branch ∷ rest)
put_first number branch rest all = by (ltb branch.entry number)
  where
    by : (b : Bool) → cond b (insert_entry xid_order (held_now number rest) branch.xid branch.floor) (held_now number rest)
        ≡ map held_of (cond b (branch ∷ filter (λ (o : OpenBranch). ltb o.entry number) rest) (filter (λ (o : OpenBranch). ltb o.entry number) rest))
    by true = front_inserted branch number rest all
    by false = refl

put_past : (number : ℕ) (first o : OpenBranch) (held : List (Xid × ℕ)) → IsXidBelow first.xid o.xid
    → put_open number o (held_of first ∷ held) ≡ held_of first ∷ put_open number o held
put_past number first o held below = by (ltb o.entry number)
  where
    by : (b : Bool) → cond b (insert_entry xid_order (held_of first ∷ held) o.xid o.floor) (held_of first ∷ held)
        ≡ held_of first ∷ cond b (insert_entry xid_order held o.xid o.floor) held
    by true =
        ap (λ (r : Ordering). match_ordering r ((o.xid, o.floor) ∷ held_of first ∷ held) ((first.xid, o.floor) ∷ held)
        (held_of first ∷ insert_entry xid_order held o.xid o.floor)) (below_turned first.xid o.xid below)
    by false = refl

-- what ended, put back, stands where it stood
pub put_back_is : (number : ℕ) (xid : Xid) (opened : List OpenBranch) (o : OpenBranch) → AscendByXid opened → find_open xid opened ≡ Some o
    → put_open number o (held_now number (without xid opened)) ≡ held_now number opened
put_back_is number xid [] o ascend found = absurd (cc)
put_back_is number xid (first ∷ rest) o (below, ascend) found = by (same_xid xid first.xid) refl found (put_back_is number xid rest o ascend)
  where
    here : first ≡ o → same_xid xid first.xid ≡ true → put_open number o (held_now number (without xid rest)) ≡ held_now number (first ∷ rest)
    here is same =
        subst (λ (branch : OpenBranch). put_open number branch (held_now number (without xid rest)) ≡ held_now number (first ∷ rest)) is
        (ap (λ (list : List OpenBranch). put_open number first (held_now number list)) (others_left xid first rest same below)
        ∙ put_first number first rest below)

    behind : (b : Bool) → find_open xid rest ≡ Some o → put_open number o (held_now number (without xid rest)) ≡ held_now number rest
        → put_open number o (map held_of (cond b (first ∷ filter (λ (p : OpenBranch). ltb p.entry number) (without xid rest)) (filter (λ (p : OpenBranch). ltb p.entry number) (without xid rest))))
        ≡ map held_of (cond b (first ∷ filter (λ (p : OpenBranch). ltb p.entry number) rest) (filter (λ (p : OpenBranch). ltb p.entry number) rest))
    behind true is later =
        put_past number first o (held_now number (without xid rest))
        (found_all (λ (other : OpenBranch). IsXidBelow first.xid other.xid) (λ (other : OpenBranch). same_xid xid other.xid) rest o below is)
        ∙ ap (λ (list : List (Xid × ℕ)). held_of first ∷ list) later
    behind false is later = later

    by : (b : Bool) → same_xid xid first.xid ≡ b → cond b (Some first) (find_open xid rest) ≡ Some o
        → (find_open xid rest ≡ Some o → put_open number o (held_now number (without xid rest)) ≡ held_now number rest)
        → put_open number o (held_now number (cond (not b) (first ∷ without xid rest) (without xid rest))) ≡ held_now number (first ∷ rest)
    by true same is later = here (let one : first ≡ o = cc in one) same
    by false same is later = behind (ltb first.entry number) is (later is)

-- an entry that ends a branch leaves what stood open before it and before earlier entries
pub ends_same : (number last : ℕ) (xid : Xid) (opened : List OpenBranch) (ended : List EndedBranch) (o : OpenBranch) → AscendByXid opened → find_open xid opened ≡ Some o → number ≤ last
    → held_at number (without xid opened) (ended ++ record { xid = o.xid; floor = o.floor; entry = o.entry; ended = last } ∷ []) ≡ held_at number opened ended
ends_same number last xid opened ended o ascend found h =
    let e : EndedBranch = record { xid = o.xid; floor = o.floor; entry = o.entry; ended = last } in
    let held : List (Xid × ℕ) = held_now number (without xid opened) in
    ended_append number ended e held
    ∙ ap (λ (b : Bool). with_ended number ended (cond (ltb o.entry number && b) (insert_entry xid_order held o.xid o.floor) held)) (le-leb number last h)
    ∙ ap (λ (b : Bool). with_ended number ended (cond b (insert_entry xid_order held o.xid o.floor) held)) (both_true (ltb o.entry number))
    ∙ ap (with_ended number ended) (put_back_is number xid opened o ascend found)
  where
    both_true : (b : Bool) → (b && true) ≡ b
    both_true true = refl
    both_true false = refl
