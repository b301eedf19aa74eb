-- Held branches in order of their xids: neighbours are.
use Rattle.std.proofs.Common.{◌≡◌, ℕ, zero, suc, ◌+◌, ◌-◌, ◌<◌, ◌≤◌, IsTrue, inl, inr, List, [], ◌∷◌, length, map, get_or, ap, subst, refl, ◌∙◌, arith}
use Rattle.std.specs.Prelude.{◌↔◌}
use Rattle.std.specs.Ordering.{is_lt}
use Rattle.std.proofs.lemmas.Bool.{cases_lt}
use Rattle.cdc_base.specs.declared.xid.Xid.{Xid}
use Rattle.cdc_base.specs.Xid.{xid_order}
use Rattle.cdc_model.specs.Openings.{AscendByXid, IsXidBelow}
use Rattle.cdc_model.specs.Restart.{held_open}
use Rattle.cdc_model.proofs.XidOrder.{is_ordered, lesser_by, below_rest}

-- the test of two xids
pub is_below_is : (x y : Xid) → IsTrue (is_lt (xid_order x y)) ↔ IsXidBelow x y
is_below_is x y = (lesser_by x y (xid_order x y) refl, λ below. ap is_lt (is_ordered x y below))

-- each of the first so many stands below the next one
pub record PairsBelow (held : List (Xid × ℕ)) (upto : ℕ) : Type 0 where
  pub each : (i : ℕ) (d : Xid × ℕ) → suc i < upto → IsXidBelow (get_or held i d).0 (get_or held (suc i) d).0

pub no_pairs : (held : List (Xid × ℕ)) (upto : ℕ) → upto ≤ 1 → PairsBelow held upto
no_pairs held upto few = record { each = λ i d below. absurd (omega (arith, few, below)) }

-- one neighbour more
pub one_pair_more : (held : List (Xid × ℕ)) (index : ℕ) → 1 ≤ index → PairsBelow held index
    → ((d : Xid × ℕ) → IsXidBelow (get_or held (index - 1) d).0 (get_or held index d).0) → PairsBelow held (index + 1)
one_pair_more held index some so_far here = record { each = step }
  where
    step : (i : ℕ) (d : Xid × ℕ) → suc i < index + 1 → IsXidBelow (get_or held i d).0 (get_or held (suc i) d).0
    step i d below =
        elim (cases_lt (suc i) index) [
          | inl earlier ↦ so_far.each i d earlier
          | inr last ↦
              let next : index ≡ suc i = omega (arith, last, below) in
              let before : index - 1 ≡ i = omega (arith, next) in
              subst (λ (n : ℕ). IsXidBelow (get_or held n d).0 (get_or held (suc i) d).0) before
              (subst (λ (n : ℕ). IsXidBelow (get_or held (index - 1) d).0 (get_or held n d).0) next (here d))
        ]

pub pairs_of : (held : List (Xid × ℕ)) → AscendByXid (map held_open held) → (i : ℕ) (d : Xid × ℕ) → suc i < length held
    → IsXidBelow (get_or held i d).0 (get_or held (suc i) d).0
pairs_of [] ascend i d below = absurd (omega (arith, below))
pairs_of (a ∷ []) ascend i d below = absurd (omega (arith, below))
pairs_of (a ∷ b ∷ rest) ascend zero d below = ascend.0.0
pairs_of (a ∷ b ∷ rest) ascend (suc i) d below = pairs_of (b ∷ rest) ascend.1 i d (omega (arith, below))

pub ascend_of : (held : List (Xid × ℕ)) → ((i : ℕ) (d : Xid × ℕ) → suc i < length held → IsXidBelow (get_or held i d).0 (get_or held (suc i) d).0)
    → AscendByXid (map held_open held)
ascend_of [] pairs = tt
ascend_of (a ∷ []) pairs = (tt, tt)
ascend_of (a ∷ b ∷ rest) pairs =
    let later = ascend_of (b ∷ rest) (λ i d below. pairs (suc i) d (omega (arith, below))) in
    let here : IsXidBelow a.0 b.0 = pairs 0 a (omega arith) in
    ((here, below_rest a.0 b.0 (map held_open rest) here later.0), later)

-- all neighbours
pub all_pairs : (held : List (Xid × ℕ)) (upto : ℕ) → length held ≤ upto → PairsBelow held upto → AscendByXid (map held_open held)
all_pairs held upto enough pairs = ascend_of held (λ i d below. pairs.each i d (omega (arith, below, enough)))

-- what stands at a place that is there doesn't hang on a default
default_free : {X : Type 0} (xs : List X) (i : ℕ) (d e : X) → i < length xs → get_or xs i d ≡ get_or xs i e
default_free [] i d e within = absurd (omega (arith, within))
default_free (x ∷ xs) zero d e within = refl
default_free (x ∷ xs) (suc i) d e within = default_free xs i d e (omega (arith, within))

-- a neighbour that isn't below
pub not_ascending : (held : List (Xid × ℕ)) (index : ℕ) (a b : Xid × ℕ) → 1 ≤ index → index < length held
    → (IsXidBelow (get_or held (index - 1) a).0 (get_or held index b).0 → ⊥) → AscendByXid (map held_open held) → ⊥
not_ascending held index a b some within fails ascend =
    let next : suc (index - 1) ≡ index = omega (arith, some) in
    let pair = pairs_of held ascend (index - 1) a (omega (arith, within, next)) in
    let here : get_or held (suc (index - 1)) a ≡ get_or held index b = ap (λ (n : ℕ). get_or held n a) next ∙ default_free held index a b within in
    fails (subst (λ (x : Xid × ℕ). IsXidBelow (get_or held (index - 1) a).0 x.0) here pair)
