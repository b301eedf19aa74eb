-- Branches that are held open, in the order of their xids, come to stand one behind another.
use Rattle.std.proofs.Common.{◌≡◌, ◌<◌, ℕ, ◌+◌, Bool, true, false, cond, List, [], ◌∷◌, ◌++◌, length, get_or, take, drop, map, Some, None, ap, sym, subst, refl, ◌∙◌}
use Rattle.std.specs.Ordering.{is_lt}
use Rattle.std.proofs.lemmas.List.{take_more, take-append-drop, map-append}
use Rattle.cdc_base.specs.declared.place.Place.{Place}
use Rattle.cdc_base.specs.declared.xid.Xid.{Xid}
use Rattle.cdc_base.specs.Xid.{same_xid}
use Rattle.cdc_model.specs.Records.{OpenBranch}
use Rattle.cdc_model.specs.Start.{find_open}
use Rattle.cdc_model.specs.Openings.{IsXidBelow, AscendByXid}
use Rattle.cdc_model.specs.Restart.{held_open}
use Rattle.cdc_model.proofs.SameXid.{same_xid_is}
use Rattle.cdc_open.specs.Standing.{StandingBranch, branches_of, enter_standing}
use Rattle.cdc_sorter.specs.Trail.{standing_held}
use Rattle.cdc_sorter.proofs.Held.{below_turned, not_itself}
use Rattle.cdc_sorter.proofs.HeldMaps.{ascend_front, last_below}

pub held_are : (place : Place) (checksum : ℕ) (held : List (Xid × ℕ)) → branches_of (map (standing_held place checksum) held) ≡ map held_open held
held_are place checksum [] = refl
held_are place checksum (first ∷ held) = ap (λ (list : List OpenBranch). held_open first ∷ list) (held_are place checksum held)

-- the greatest xid isn't among those before it
last_new : (opened : List OpenBranch) (branch : OpenBranch) → AscendByXid (opened ++ branch ∷ []) → find_open branch.xid opened ≡ None
last_new [] branch ascend = refl
last_new (first ∷ opened) branch (below, ascend) = by (same_xid branch.xid first.xid) refl (last_new opened branch ascend)
  where
    by : (b : Bool) → same_xid branch.xid first.xid ≡ b → find_open branch.xid opened ≡ None → cond b (Some first) (find_open branch.xid opened) ≡ None
    by true same later =
        absurd (not_itself first.xid (subst (IsXidBelow first.xid) (same_xid_is branch.xid first.xid same) (last_below first branch opened below)))
    by false same later = later

-- it comes to stand last
last_enters : (standing : List StandingBranch) (new : StandingBranch) → AscendByXid (branches_of standing ++ new.branch ∷ []) → enter_standing new standing ≡ standing ++ new ∷ []
last_enters [] new ascend = refl
last_enters (first ∷ standing) new (below, ascend) =
    ap (λ (b : Bool). cond b (new ∷ first ∷ standing) (first ∷ enter_standing new standing))
    (ap is_lt (below_turned first.branch.xid new.branch.xid (last_below first.branch new.branch (branches_of standing) below)))
    ∙ ap (λ (list : List StandingBranch). first ∷ list) (last_enters standing new ascend)

held_front : (place : Place) (checksum : ℕ) (held : List (Xid × ℕ)) (i : ℕ) (pair : Xid × ℕ) → i < length held → pair ≡ get_or held i pair → AscendByXid (map held_open held)
    → AscendByXid (branches_of (map (standing_held place checksum) (take i held)) ++ held_open pair ∷ [])
held_front place checksum held i pair h is ascend =
    let more : take (i + 1) held ≡ take i held ++ pair ∷ [] = take_more held i pair h ∙ ap (λ (x : Xid × ℕ). take i held ++ x ∷ []) (sym is) in
    let whole : map held_open (take (i + 1) held) ++ map held_open (drop (i + 1) held) ≡ map held_open held =
    sym (map-append held_open (take (i + 1) held) (drop (i + 1) held)) ∙ ap (map held_open) (take-append-drop (i + 1) held) in
    let front : AscendByXid (map held_open (take (i + 1) held)) =
    ascend_front (map held_open (take (i + 1) held)) (map held_open (drop (i + 1) held)) (subst AscendByXid (sym whole) ascend) in
    subst AscendByXid
    (ap (map held_open) more ∙ map-append held_open (take i held) (pair ∷ [])
    ∙ ap (λ (list : List OpenBranch). list ++ held_open pair ∷ []) (sym (held_are place checksum (take i held))))
    front

pub held_new : (place : Place) (checksum : ℕ) (held : List (Xid × ℕ)) (i : ℕ) (pair : Xid × ℕ) (opened : List StandingBranch) → i < length held → pair ≡ get_or held i pair
    → AscendByXid (map held_open held) → opened ≡ map (standing_held place checksum) (take i held) → find_open pair.0 (branches_of opened) ≡ None
held_new place checksum held i pair opened h is ascend so_far =
    ap (λ (list : List StandingBranch). find_open pair.0 (branches_of list)) so_far
    ∙ last_new (branches_of (map (standing_held place checksum) (take i held))) (held_open pair) (held_front place checksum held i pair h is ascend)

pub held_more : (place : Place) (checksum : ℕ) (held : List (Xid × ℕ)) (i : ℕ) (pair : Xid × ℕ) (opened : List StandingBranch) → i < length held → pair ≡ get_or held i pair
    → AscendByXid (map held_open held) → opened ≡ map (standing_held place checksum) (take i held)
    → enter_standing (standing_held place checksum pair) opened ≡ map (standing_held place checksum) (take (i + 1) held)
held_more place checksum held i pair opened h is ascend so_far =
    ap (enter_standing (standing_held place checksum pair)) so_far
    ∙ last_enters (map (standing_held place checksum) (take i held)) (standing_held place checksum pair) (held_front place checksum held i pair h is ascend)
    ∙ sym (map-append (standing_held place checksum) (take i held) (pair ∷ []))
    ∙ ap (map (standing_held place checksum)) (sym (take_more held i pair h ∙ ap (λ (x : Xid × ℕ). take i held ++ x ∷ []) (sym is)))
