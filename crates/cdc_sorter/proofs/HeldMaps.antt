-- A map from xids to floors, as pairs of them in order.
use Rattle.std.proofs.Common.{◌≡◌, ◌≤◌, ◌<◌, ◌^◌, ℕ, ◌+◌, ◌-◌, Bool, true, false, cond, ltb, List, [], ◌∷◌, ◌++◌, length, get_or, drop, append-nil, append_assoc, map, filter, ap, sym, subst, refl, ◌∙◌, arith}
use Rattle.std.specs.List.{AllByRecursion}
use Rattle.std.specs.Ordering.{match_ordering}
use Rattle.std.specs.BTreeMap.{insert_entry}
use Rattle.std.specs.declared.cmp.Ordering.{Ordering}
use Rattle.std.specs.declared.cmp.Ordering.TheVariants.{Less, Equal, Greater}
use Rattle.std.proofs.lemmas.Bool.{lt-ltb, le-ltb, ltb-true, ltb-false}
use Rattle.std.proofs.lemmas.List.{drop_more}
use Rattle.cdc_base.specs.declared.key.Key.{Key}
use Rattle.cdc_base.specs.declared.xid.Xid.{Xid}
use Rattle.cdc_base.specs.Xid.{xid_order}
use Rattle.cdc_model.specs.NodeCuts.{AreFloors}
use Rattle.cdc_model.specs.Records.{OpenBranch}
use Rattle.cdc_model.specs.Openings.{IsXidBelow, AscendByXid}
use Rattle.cdc_model.specs.Restart.{RestartPoint, held_of}
use Rattle.cdc_open.specs.declared.xid_key.XidKey.{XidKey}
use Rattle.cdc_sorter.specs.Cut.{pairs_of}
use Rattle.cdc_open.specs.Standing.{StandingBranch, branches_of}
use Rattle.cdc_sorter.specs.Trail.{Stand, EndedBranch, RecentBranch, Trail, Standings, held_now, held_at, put_open, put_opens, put_ended, with_ended, present, earliest, stands_open, stands_above, point_of, cut_stand, cut_of}
use Rattle.cdc_sorter.proofs.Held.{below_turned}
use Rattle.cdc_sorter.proofs.Points.{earliest_append}

abbrev pub key_order_of : XidKey → XidKey → Ordering
key_order_of a b = xid_order a.xid b.xid

-- a pair more
pub pairs_put : (entries : List (XidKey × ℕ)) (key : XidKey) (floor : ℕ) → pairs_of (insert_entry key_order_of entries key floor) ≡ insert_entry xid_order (pairs_of entries) key.xid floor
pairs_put [] key floor = refl
pairs_put (e ∷ entries) key floor = by (xid_order key.xid e.0.xid) (pairs_put entries key floor)
  where
    by : (o : Ordering) → pairs_of (insert_entry key_order_of entries key floor) ≡ insert_entry xid_order (pairs_of entries) key.xid floor
        → pairs_of (match_ordering o ((key, floor) ∷ e ∷ entries) ((e.0, floor) ∷ entries) (e ∷ insert_entry key_order_of entries key floor))
        ≡ match_ordering o ((key.xid, floor) ∷ (e.0.xid, e.1) ∷ pairs_of entries) ((e.0.xid, floor) ∷ pairs_of entries) ((e.0.xid, e.1) ∷ insert_entry xid_order (pairs_of entries) key.xid floor)
    by Less later = refl
    by Equal later = refl
    by Greater later = ap (λ (list : List (Xid × ℕ)). (e.0.xid, e.1) ∷ list) later

-- floors stay below 2^63
pub floors_put : (pairs : List (Xid × ℕ)) (xid : Xid) (floor : ℕ) → floor < 2 ^ 63 → AreFloors pairs → AreFloors (insert_entry xid_order pairs xid floor)
floors_put [] xid floor h all = (h, tt)
floors_put (pair ∷ pairs) xid floor h (here, all) = by (xid_order xid pair.0) (floors_put pairs xid floor h all)
  where
    by : (o : Ordering) → AreFloors (insert_entry xid_order pairs xid floor)
        → AreFloors (match_ordering o ((xid, floor) ∷ pair ∷ pairs) ((pair.0, floor) ∷ pairs) (pair ∷ insert_entry xid_order pairs xid floor))
    by Less later = (h, (here, all))
    by Equal later = (h, all)
    by Greater later = (here, later)

-- what ascends ascends in front
pub ascend_front : (opened more : List OpenBranch) → AscendByXid (opened ++ more) → AscendByXid opened
ascend_front [] more ascend = tt
ascend_front (first ∷ opened) more (below, ascend) = (all_front opened below, ascend_front opened more ascend)
  where
    all_front : (list : List OpenBranch) → AllByRecursion (λ (other : OpenBranch). IsXidBelow first.xid other.xid) (list ++ more)
        → AllByRecursion (λ (other : OpenBranch). IsXidBelow first.xid other.xid) list
    all_front [] all = tt
    all_front (x ∷ list) (here, all) = (here, all_front list all)

pub last_below : (first branch : OpenBranch) (opened : List OpenBranch) → AllByRecursion (λ (other : OpenBranch). IsXidBelow first.xid other.xid) (opened ++ branch ∷ [])
    → IsXidBelow first.xid branch.xid
last_below first branch [] (here, all) = here
last_below first branch (x ∷ opened) (here, all) = last_below first branch opened all

-- the branch with the greatest xid comes last
pub put_last : (number : ℕ) (opened : List OpenBranch) (branch : OpenBranch) → AscendByXid (opened ++ branch ∷ []) → branch.entry < number
    → insert_entry xid_order (held_now number opened) branch.xid branch.floor ≡ held_now number (opened ++ branch ∷ [])
put_last number [] branch ascend h = sym (ap (λ (b : Bool). map held_of (cond b (branch ∷ []) [])) (lt-ltb branch.entry number h))
put_last number (first ∷ opened) branch (below, ascend) h = by (ltb first.entry number) (put_last number opened branch ascend h)
  where
    by : (b : Bool) → insert_entry xid_order (held_now number opened) branch.xid branch.floor ≡ held_now number (opened ++ branch ∷ [])
        → insert_entry xid_order (map held_of (cond b (first ∷ filter (λ (o : OpenBranch). ltb o.entry number) opened) (filter (λ (o : OpenBranch). ltb o.entry number) opened))) branch.xid branch.floor
        ≡ map held_of (cond b (first ∷ filter (λ (o : OpenBranch). ltb o.entry number) (opened ++ branch ∷ [])) (filter (λ (o : OpenBranch). ltb o.entry number) (opened ++ branch ∷ [])))
    by true later =
        ap (λ (o : Ordering). match_ordering o ((branch.xid, branch.floor) ∷ held_of first ∷ held_now number opened) ((first.xid, branch.floor) ∷ held_now number opened)
        (held_of first ∷ insert_entry xid_order (held_now number opened) branch.xid branch.floor)) (below_turned first.xid branch.xid (last_below first branch opened below))
        ∙ ap (λ (list : List (Xid × ℕ)). held_of first ∷ list) later
    by false later = later

late_out : (number : ℕ) (opened : List OpenBranch) (branch : OpenBranch) → number ≤ branch.entry → held_now number (opened ++ branch ∷ []) ≡ held_now number opened
late_out number [] branch h = ap (λ (b : Bool). map held_of (cond b (branch ∷ []) [])) (le-ltb branch.entry number h)
late_out number (first ∷ opened) branch h = by (ltb first.entry number) (late_out number opened branch h)
  where
    by : (b : Bool) → held_now number (opened ++ branch ∷ []) ≡ held_now number opened
        → map held_of (cond b (first ∷ filter (λ (o : OpenBranch). ltb o.entry number) (opened ++ branch ∷ [])) (filter (λ (o : OpenBranch). ltb o.entry number) (opened ++ branch ∷ [])))
        ≡ map held_of (cond b (first ∷ filter (λ (o : OpenBranch). ltb o.entry number) opened) (filter (λ (o : OpenBranch). ltb o.entry number) opened))
    by true later = ap (λ (list : List (Xid × ℕ)). held_of first ∷ list) later
    by false later = later

put_one : (number : ℕ) (front : List OpenBranch) (branch : OpenBranch) → AscendByXid (front ++ branch ∷ [])
    → put_open number branch (held_now number front) ≡ held_now number (front ++ branch ∷ [])
put_one number front branch ascend = by (ltb branch.entry number) refl
  where
    by : (b : Bool) → ltb branch.entry number ≡ b
        → cond b (insert_entry xid_order (held_now number front) branch.xid branch.floor) (held_now number front) ≡ held_now number (front ++ branch ∷ [])
    by true e = put_last number front branch ascend (ltb-true branch.entry number e)
    by false e = sym (late_out number front branch (ltb-false branch.entry number e))

-- those that are left, behind those so far
opens_on : (number : ℕ) (front back : List OpenBranch) → AscendByXid (front ++ back) → put_opens number back (held_now number front) ≡ held_now number (front ++ back)
opens_on number front [] ascend = ap (held_now number) (sym (append-nil front))
opens_on number front (branch ∷ back) ascend =
    let whole : (front ++ branch ∷ []) ++ back ≡ front ++ branch ∷ back = append_assoc front (branch ∷ []) back in
    let again : AscendByXid ((front ++ branch ∷ []) ++ back) = subst AscendByXid (sym whole) ascend in
    ap (put_opens number back) (put_one number front branch (ascend_front (front ++ branch ∷ []) back again))
    ∙ opens_on number (front ++ branch ∷ []) back again
    ∙ ap (held_now number) whole

-- all open branches, put one after another
pub opens_all : (number : ℕ) (opened : List OpenBranch) → AscendByXid opened → put_opens number opened [] ≡ held_now number opened
opens_all number opened ascend = opens_on number [] opened ascend

-- one more of those that have ended, from the last one on
pub ended_more : (number : ℕ) (ended : List EndedBranch) (at : ℕ) (e : EndedBranch) (held base : List (Xid × ℕ)) → at < length ended → e ≡ get_or ended at e
    → held ≡ with_ended number (drop (at + 1) ended) base → put_ended number e held ≡ with_ended number (drop at ended) base
ended_more number ended at e held base h is so_far =
    ap (put_ended number e) so_far
    ∙ ap (λ (x : EndedBranch). with_ended number (x ∷ drop (at + 1) ended) base) is
    ∙ ap (λ (list : List EndedBranch). with_ended number list base) (sym (drop_more ended at e h))

-- the same, counted from the last one
pub ended_on : (number : ℕ) (ended : List EndedBranch) (count index at : ℕ) (e : EndedBranch) (held base : List (Xid × ℕ)) → count ≡ length ended → index < count
    → at + 1 + index ≡ count → e ≡ get_or ended at e → held ≡ with_ended number (drop (count - index) ended) base
    → put_ended number e held ≡ with_ended number (drop (count - (index + 1)) ended) base
ended_on number ended count index at e held base counted within at_is is so_far =
    let here : count - index ≡ at + 1 = omega (arith, at_is, within) in
    let there : at ≡ count - (index + 1) = omega (arith, at_is, within) in
    ended_more number ended at e held base (omega (arith, at_is, counted)) is (so_far ∙ ap (λ (n : ℕ). with_ended number (drop n ended) base) here)
    ∙ ap (λ (n : ℕ). with_ended number (drop n ended) base) there

-- ---- the cut, by its parts

abbrev pub stand_with : Stand → List (Xid × ℕ) → RestartPoint
stand_with stand held = record { entry = stand.entry; place = stand.place; mark = stand.mark; checksum = stand.checksum; held = held }

pub cut_made : (last : Key) (first : ℕ) (here : Standings) (trail : Trail) (standing : List StandingBranch) (recent : List RecentBranch) (ended : List EndedBranch) (now one stand : Stand)
    (held : List (Xid × ℕ)) → standing ≡ here.opened → recent ≡ trail.recent → ended ≡ trail.ended → now ≡ present here trail
    → one ≡ earliest now (stands_open first standing) → stand ≡ earliest one (stands_above last recent)
    → (AscendByXid (branches_of standing) → held ≡ held_at stand.entry (branches_of standing) ended) → AscendByXid (branches_of here.opened)
    → stand_with stand held ≡ cut_of last first here trail
cut_made last first here trail standing recent ended now one stand held standing_is recent_is ended_is now_is one_is stand_is pairs ascend =
    let found : stand ≡ cut_stand last first here trail =
    stand_is
    ∙ ap (λ (list : List RecentBranch). earliest one (stands_above last list)) recent_is
    ∙ ap (λ (s : Stand). earliest s (stands_above last trail.recent)) one_is
    ∙ ap (λ (s : Stand). earliest (earliest s (stands_open first standing)) (stands_above last trail.recent)) now_is
    ∙ ap (λ (list : List StandingBranch). earliest (earliest (present here trail) (stands_open first list)) (stands_above last trail.recent)) standing_is
    ∙ sym (earliest_append (present here trail) (stands_open first here.opened) (stands_above last trail.recent)) in
    let held_is : held ≡ held_at stand.entry (branches_of here.opened) trail.ended =
    pairs (subst AscendByXid (ap branches_of (sym standing_is)) ascend)
    ∙ ap (λ (list : List StandingBranch). held_at stand.entry (branches_of list) ended) standing_is
    ∙ ap (held_at stand.entry (branches_of here.opened)) ended_is in
    ap (stand_with stand) held_is ∙ ap (point_of (branches_of here.opened) trail.ended) found
