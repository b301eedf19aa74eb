-- The settled keys of some branches: in order, and exactly those.
use Rattle.std.proofs.Common.{◌≡◌, ℕ, Bool, true, false, ◌⊎◌, ◌↔◌, inl, inr, IsTrue, if◌then◌else◌, List, [], ◌∷◌, map, fold, Contains, ap, refl, subst, ◌∙◌}
use Rattle.std.specs.List.Sorted.{IsStrictlySortedBy}
use Rattle.cdc_base.specs.declared.key.Key.{Key}
use Rattle.cdc_base.specs.Key.{key_order}
use Rattle.cdc_model.specs.Records.{CommittedBranch}
use Rattle.cdc_model.specs.Branch.{is_settled}
use Rattle.cdc_model.specs.Transaction.{put, add_settled, settled_keys}
use Rattle.cdc_model.proofs.Members.{contains_first, contains_later, contains_none, contains_cases}
use Rattle.cdc_model.proofs.KeyList.{sorted_put, in_put, put_itself, put_other}

-- the keys of branches
abbrev pub keys_of : List CommittedBranch → List Key
keys_of branches = map (λ (branch : CommittedBranch). branch.key) branches

pub sorted_with : (test : Bool) (key : Key) (keys : List Key) → IsStrictlySortedBy key_order keys → IsStrictlySortedBy key_order (if test then put key keys else keys)
sorted_with true key keys sorted = sorted_put key keys sorted
sorted_with false key keys sorted = sorted

pub sorted_behind : (mark : ℕ) (keys : List Key) (branches : List CommittedBranch) → IsStrictlySortedBy key_order keys
    → IsStrictlySortedBy key_order (fold (add_settled mark) keys branches)
sorted_behind mark keys [] sorted = sorted
sorted_behind mark keys (branch ∷ branches) sorted =
    sorted_behind mark (add_settled mark keys branch) branches (sorted_with (is_settled mark branch.key) branch.key keys sorted)

pub settled_sorted : (mark : ℕ) (branches : List CommittedBranch) → IsStrictlySortedBy key_order (settled_keys mark branches)
unfolding IsStrictlySortedBy
settled_sorted mark branches = sorted_behind mark [] branches tt

-- ---- what is in them

pub in_with : (test : Bool) (key : Key) (keys : List Key) (other : Key) → Contains (if test then put key keys else keys) other
    → ((test ≡ true) × (key ≡ other)) ⊎ Contains keys other
in_with true key keys other within = elim (in_put key keys other within) [ inl is ↦ inl (refl, is) | inr before ↦ inr before ]
in_with false key keys other within = inr within

pub with_itself : (test : Bool) (key : Key) (keys : List Key) → test ≡ true → Contains (if test then put key keys else keys) key
with_itself true key keys is = put_itself key keys
with_itself false key keys is = absurd (cc)

pub with_other : (test : Bool) (key : Key) (keys : List Key) (other : Key) → Contains keys other → Contains (if test then put key keys else keys) other
with_other true key keys other within = put_other key keys other within
with_other false key keys other within = within

-- a key that is settled, and that some branch has
abbrev pub IsSettledOf : ℕ → List CommittedBranch → Key → Type 0
IsSettledOf mark branches key = IsTrue (is_settled mark key) × Contains (keys_of branches) key

pub settled_later : (mark : ℕ) (branch : CommittedBranch) (branches : List CommittedBranch) (key : Key)
    → IsSettledOf mark branches key → IsSettledOf mark (branch ∷ branches) key
settled_later mark branch branches key (settled, within) = (settled, contains_later branch.key (keys_of branches) key within)

pub in_behind : (mark : ℕ) (keys : List Key) (branches : List CommittedBranch) (key : Key)
    → Contains (fold (add_settled mark) keys branches) key → IsSettledOf mark branches key ⊎ Contains keys key
in_behind mark keys [] key within = inr within
in_behind mark keys (branch ∷ branches) key within =
    elim (in_behind mark (add_settled mark keys branch) branches key within) [
      | inl settled ↦ inl (settled_later mark branch branches key settled)
      | inr before ↦
          elim (in_with (is_settled mark branch.key) branch.key keys key before) [
            | inl first ↦
                inl (subst (IsSettledOf mark (branch ∷ branches)) first.1 (first.0, contains_first branch.key (keys_of branches)))
            | inr before ↦ inr before
          ]
    ]

pub still_behind : (mark : ℕ) (keys : List Key) (branches : List CommittedBranch) (key : Key)
    → Contains keys key → Contains (fold (add_settled mark) keys branches) key
still_behind mark keys [] key within = within
still_behind mark keys (branch ∷ branches) key within =
    still_behind mark (add_settled mark keys branch) branches key (with_other (is_settled mark branch.key) branch.key keys key within)

pub settled_behind : (mark : ℕ) (keys : List Key) (branches : List CommittedBranch) (key : Key)
    → IsTrue (is_settled mark key) → Contains (keys_of branches) key → Contains (fold (add_settled mark) keys branches) key
settled_behind mark keys [] key settled within = absurd (contains_none key within)
settled_behind mark keys (branch ∷ branches) key settled within =
    elim (contains_cases branch.key (keys_of branches) key within) [
      | inl is ↦
          still_behind mark (add_settled mark keys branch) branches key
          (subst (Contains (add_settled mark keys branch)) is
          (with_itself (is_settled mark branch.key) branch.key keys (ap (is_settled mark) is ∙ settled)))
      | inr later ↦ settled_behind mark (add_settled mark keys branch) branches key settled later
    ]

pub in_settled : (mark : ℕ) (branches : List CommittedBranch) (key : Key)
    → Contains (settled_keys mark branches) key ↔ IsSettledOf mark branches key
in_settled mark branches key = (
  λ within. elim (in_behind mark [] branches key within) [ inl settled ↦ settled | inr none ↦ absurd (contains_none key none) ],
  λ settled. settled_behind mark [] branches key settled.0 settled.1,
)
