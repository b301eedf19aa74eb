-- The keys of settled transactions rise with their numbers.
use Rattle.std.proofs.Common.{◌≡◌, ◌⊎◌, inl, inr, ℕ, zero, suc, ◌≤◌, ◌<◌, List, [], ◌∷◌, length, drop, ap, sym, subst, refl, arith}
use Rattle.std.specs.Prelude.{Contains, slice_get}
use Rattle.std.specs.Ordering.{is_gt}
use Rattle.std.proofs.lemmas.List.{length-map}
use Rattle.cdc_base.specs.declared.key.Key.{Key}
use Rattle.cdc_base.specs.Key.{first_key}
use Rattle.cdc_model.specs.declared.node_log.NodeLog.{NodeLog}
use Rattle.cdc_model.specs.Records.{CommittedBranch, Transaction}
use Rattle.cdc_model.specs.Transaction.{all_branches, key_or_first, key_at}
use Rattle.cdc_model.specs.Restart.{IsAtMost}
use Rattle.cdc_model.proofs.KeyList.{IsBelowAll}
use Rattle.cdc_model.proofs.Members.{contains_first, contains_later}
use Rattle.cdc_model.proofs.GlobalOrder.{keys_in}
use Rattle.cdc_model.proofs.SettledKeys.{keys_of}
use Rattle.cdc_model.proofs.OrderCut.{settled_is_exact}
use Rattle.cdc_model.proofs.RestartPoints.{at_most_itself}
use Rattle.cdc_model.proofs.RestartOrder.{greater, all_above, above_member, below_from, behind_is_above, key_is_nth}
use Rattle.cdc_recovery.specs.Outputs.{OutputPlan, planned_transactions}

-- a later one's key stands behind the first so many
stands_later : (count at : ℕ) (txns : List Transaction) → count ≤ at → at < length txns → Contains (drop count (keys_in txns)) (key_or_first (slice_get txns at))
stands_later zero zero [] order within = absurd (omega (arith, within))
stands_later zero zero (txn ∷ txns) order within = contains_first txn.key (keys_in txns)
stands_later zero (suc at) [] order within = absurd (omega (arith, within))
stands_later zero (suc at) (txn ∷ txns) order within =
    contains_later txn.key (keys_in txns) (key_or_first (slice_get txns at)) (stands_later zero at txns (omega arith) (omega (arith, within)))
stands_later (suc count) zero txns order within = absurd (omega (arith, order))
stands_later (suc count) (suc at) [] order within = absurd (omega (arith, within))
stands_later (suc count) (suc at) (txn ∷ txns) order within = stands_later count at txns (omega (arith, order)) (omega (arith, within))

-- no settled transaction has a key that isn't above the first
above_first : (plan : OutputPlan) (logs : List NodeLog) → IsBelowAll first_key (keys_in (planned_transactions plan logs))
above_first plan logs =
    below_from first_key (keys_in (planned_transactions plan logs))
    (λ key found.
    greater key first_key
    (above_member first_key (all_branches first_key logs) key
    (subst (λ (list : List CommittedBranch). Contains (keys_of list) key) (all_above first_key first_key 1 logs (inl refl))
    (((settled_is_exact plan.rules 0 first_key logs).exact key).0 found).present)).1)

-- the key of a later transaction isn't below that of an earlier one
pub later_key : (plan : OutputPlan) (logs : List NodeLog) (n m : ℕ) → n ≤ m → m ≤ length (planned_transactions plan logs)
    → IsAtMost (key_at (planned_transactions plan logs) n) (key_at (planned_transactions plan logs) m)
later_key plan logs n zero order within =
    let none : zero ≡ n = omega (arith, order) in
    subst (λ (k : ℕ). IsAtMost (key_at (planned_transactions plan logs) k) first_key) none (at_most_itself first_key)
later_key plan logs n (suc m) order within = by (before n m order)
  where
    txns : List Transaction
    txns = planned_transactions plan logs

    before : (n m : ℕ) → n ≤ suc m → (n ≤ m) ⊎ (suc m ≡ n)
    before zero m h = inl (omega arith)
    before (suc n) zero h = inr (let e : 1 ≡ suc n = omega (arith, h) in e)
    before (suc n) (suc m) h = elim (before n m (omega (arith, h))) [
      | inl less ↦ inl (omega (arith, less))
      | inr same ↦ inr (ap suc same)
    ]

    by : (n ≤ m) ⊎ (suc m ≡ n) → IsAtMost (key_at txns n) (key_at txns (suc m))
    by (inr same) = subst (λ (k : ℕ). IsAtMost (key_at txns k) (key_at txns (suc m))) same (at_most_itself (key_at txns (suc m)))
    by (inl less) =
        let number : n ≤ length (keys_in txns) = omega (arith, less, within, length-map txns (λ (txn : Transaction). txn.key)) in
        let found = behind_is_above first_key n (keys_in txns) (key_or_first (slice_get txns m)) (above_first plan logs)
        (settled_is_exact plan.rules 0 first_key logs).ascending number (stands_later n m txns less (omega (arith, within))) in
        subst (λ (k : Key). IsAtMost k (key_at txns (suc m))) (sym (key_is_nth n txns (omega (arith, less, within)))) (ap is_gt found.1)
