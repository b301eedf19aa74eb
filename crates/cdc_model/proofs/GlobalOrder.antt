-- The global order: what the ordered transactions are.
use Rattle.std.proofs.Common.{◌≡◌, ℕ, ◌+◌, ◌↔◌, List, [], ◌∷◌, map, filter, length, None, Contains, inl, inr, ap, sym, refl, subst}
use Rattle.std.specs.List.Sorted.{IsStrictlySortedBy}
use Rattle.cdc_base.specs.declared.key.Key.{Key}
use Rattle.cdc_base.specs.Key.{key_order}
use Rattle.cdc_model.specs.Records.{CommittedBranch, Transaction}
use Rattle.cdc_model.specs.Transaction.{settled_keys, has_key, first_seconds, transaction_of, transactions_of, numbers_from, IsSettledKey, AreTransactionsOf, logs_low_water_mark, all_branches, OrderIsExact}
use Rattle.cdc_model.proofs.Members.{contains_none, contains_cases}
use Rattle.cdc_model.proofs.SettledKeys.{settled_sorted, in_settled}

-- the keys of transactions
abbrev pub keys_in : List Transaction → List Key
keys_in txns = map (λ (txn : Transaction). txn.key) txns

pub keys_kept : (branches : List CommittedBranch) (number : ℕ) (keys : List Key) → keys_in (transactions_of branches number keys) ≡ keys
keys_kept branches number [] = refl
keys_kept branches number (key ∷ keys) = ap (λ (rest : List Key). key ∷ rest) (keys_kept branches (number + 1) keys)

pub numbered : (branches : List CommittedBranch) (number : ℕ) (keys : List Key)
    → map (λ (txn : Transaction). txn.number) (transactions_of branches number keys) ≡ numbers_from number (length (transactions_of branches number keys))
numbered branches number [] = refl
numbered branches number (key ∷ keys) = ap (λ (rest : List ℕ). number ∷ rest) (numbered branches (number + 1) keys)

-- what is true of each transaction made is true of each in the list
pub each_made : (P : Transaction → Type 0) (branches : List CommittedBranch) → ((number : ℕ) (key : Key) → P (transaction_of branches number key))
    → (number : ℕ) (keys : List Key) (txn : Transaction) → Contains (transactions_of branches number keys) txn → P txn
each_made P branches made number [] txn within = absurd (contains_none txn within)
each_made P branches made number (key ∷ keys) txn within =
    elim (contains_cases (transaction_of branches number key) (transactions_of branches (number + 1) keys) txn within) [
      | inl is ↦ subst P is (made number key)
      | inr later ↦ each_made P branches made (number + 1) keys txn later
    ]

pub exact : (mark : ℕ) (branches : List CommittedBranch) (number : ℕ) (key : Key)
    → Contains (keys_in (transactions_of branches number (settled_keys mark branches))) key ↔ IsSettledKey mark branches None key
exact mark branches number key =
    let kept = keys_kept branches number (settled_keys mark branches) in
    let both = in_settled mark branches key in (
      λ within. let settled = both.0 (subst (λ (keys : List Key). Contains keys key) kept within) in record { settled = settled.0; present = settled.1; below = tt },
      λ settled. subst (λ (keys : List Key). Contains keys key) (sym kept) (both.1 (settled.settled, settled.present)),
    )

pub ordered : (count mark : ℕ) (branches : List CommittedBranch)
    → AreTransactionsOf count mark branches None (transactions_of branches (count + 1) (settled_keys mark branches))
ordered count mark branches = record {
  ascending = subst (IsStrictlySortedBy key_order) (sym (keys_kept branches (count + 1) (settled_keys mark branches))) (settled_sorted mark branches);
  exact = exact mark branches (count + 1);
  whole =
      each_made (λ txn. txn.branches ≡ filter (has_key txn.key) branches) branches (λ number key. refl) (count + 1)
      (settled_keys mark branches);
  dated =
      each_made (λ txn. txn.seconds ≡ first_seconds txn.branches) branches (λ number key. refl) (count + 1)
      (settled_keys mark branches);
  numbered = numbered branches (count + 1) (settled_keys mark branches);
}

pub order_is_exact : OrderIsExact
order_is_exact count last logs = ordered count (logs_low_water_mark logs) (all_branches last logs)
