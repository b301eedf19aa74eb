-- What a merger has given is a front of all that is merged.
use Rattle.std.proofs.Common.{◌≡◌, ◌⊎◌, inl, inr, true, ℕ, ◌+◌, List, [], ◌∷◌, ◌++◌, length, Contains, sym, ap, subst, ◌∙◌, le_refl}
use Rattle.std.specs.declared.cmp.Ordering.TheVariants.{Less}
use Rattle.cdc_base.specs.declared.key.Key.{Key}
use Rattle.cdc_base.specs.Key.{key_order}
use Rattle.cdc_base.proofs.KeyOrder.{key_order_total}
use Rattle.cdc_model.specs.Records.{CommittedBranch, Transaction}
use Rattle.cdc_model.specs.Branch.{is_settled}
use Rattle.cdc_model.specs.Transaction.{settled_keys, transactions_of}
use Rattle.cdc_model.specs.SettledOrder.{IsFront, transactions_under}
use Rattle.cdc_model.specs.Feed.{NodeFeed, least_bound, fed_branches, merged_transactions}
use Rattle.cdc_model.proofs.Members.{contains_first, contains_later}
use Rattle.cdc_model.proofs.SettledKeys.{keys_of, settled_sorted}
use Rattle.cdc_model.proofs.Fronts.{IsAboveEach, ascending_front}
use Rattle.cdc_model.proofs.OwnBranches.{settled_member, member_settled, transactions_append, same_transactions}
use Rattle.cdc_merger.specs.Merging.{Merging, Merges, last_key}
use Rattle.cdc_merger.proofs.KeyTests.{same_or_above}
use Rattle.cdc_merger.proofs.Following.{up_to, own_up_to, up_to_member, member_up_to, decided}

each_above : (keys : List Key) (key : Key) → ((k : Key) → Contains keys k → key_order k key ≡ Less) → IsAboveEach keys key
each_above [] key below = tt
each_above (first ∷ keys) key below = (below first (contains_first first keys), each_above keys key (λ k within. below k (contains_later first keys k within)))

-- the settled keys up to a key are a front of all settled keys
front_keys : (mark : ℕ) (last : Key) (branches : List CommittedBranch) → IsFront (settled_keys mark (up_to last branches)) (settled_keys mark branches)
front_keys mark last branches =
    ascending_front (settled_keys mark (up_to last branches)) (settled_keys mark branches) (settled_sorted mark (up_to last branches)) (settled_sorted mark branches) among or_above
  where
    among : (key : Key) → Contains (settled_keys mark (up_to last branches)) key → Contains (settled_keys mark branches) key
    among key within =
        let is = settled_member mark (up_to last branches) key within in
        member_settled mark branches key is.0 (up_to_member last branches key is.1).0

    below : (key other : Key) → key_order last key ≡ Less → Contains (settled_keys mark (up_to last branches)) other → key_order other key ≡ Less
    below key other less within =
        let is = settled_member mark (up_to last branches) other within in
        elim (same_or_above other last (up_to_member last branches other is.1).1) [
          | inl same ↦ subst (λ (k : Key). key_order k key ≡ Less) (sym same) less
          | inr under ↦ key_order_total.trans other last key under less
        ]

    by : (key : Key) → is_settled mark key ≡ true × Contains (keys_of branches) key → (key_order last key ≡ Less) ⊎ (key_order last key ≡ Less → ⊥) → Contains (settled_keys mark (up_to last branches)) key ⊎ IsAboveEach (settled_keys mark (up_to last branches)) key
    by key is (inl less) = inr (each_above (settled_keys mark (up_to last branches)) key (λ other within. below key other less within))
    by key is (inr never) = inl (member_settled mark (up_to last branches) key is.0 (member_up_to last branches key is.1 never))

    or_above : (key : Key) → Contains (settled_keys mark branches) key → Contains (settled_keys mark (up_to last branches)) key ⊎ IsAboveEach (settled_keys mark (up_to last branches)) key
    or_above key within = by key (settled_member mark branches key within) (decided last key)

-- and so are their transactions
pub front_given : (count mark : ℕ) (last : Key) (branches : List CommittedBranch) → IsFront (transactions_under count mark (up_to last branches)) (transactions_under count mark branches)
front_given count mark last branches =
    let keys = front_keys mark last branches in
    let few = settled_keys mark (up_to last branches) in
    let same : transactions_of (up_to last branches) (count + 1) few ≡ transactions_of branches (count + 1) few =
    same_transactions (up_to last branches) branches (count + 1) few
    (λ key within. own_up_to last key branches (up_to_member last branches key (settled_member mark (up_to last branches) key within).1).1) in
    record {
      rest = transactions_of branches (count + 1 + length few) keys.rest;
      is = ap (transactions_of branches (count + 1)) keys.is ∙ transactions_append branches (count + 1) few keys.rest
          ∙ ap (λ (list : List Transaction). list ++ transactions_of branches (count + 1 + length few) keys.rest) (sym same);
    }

pub gave_front : (merger : Merging) (count : ℕ) (last : Key) (feeds : List NodeFeed) (gave : List Transaction) → Merges merger count last feeds gave → IsFront gave (merged_transactions count feeds)
gave_front merger count last feeds gave m =
    let is = m.gives (least_bound feeds) (le_refl (least_bound feeds)) in
    subst (λ (list : List Transaction). IsFront list (merged_transactions count feeds)) is (front_given count (least_bound feeds) (last_key last gave) (fed_branches feeds))
