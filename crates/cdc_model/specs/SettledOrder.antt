-- The order that a mark settles of any branches, and its fronts.
use Rattle.std.specs.Prelude.{◌≡◌, ◌≤◌, ℕ, ◌+◌, List, ◌∷◌, ◌++◌, None, Contains}
use Rattle.cdc_model.specs.Records.{CommittedBranch, Transaction}
use Rattle.cdc_model.specs.Transaction.{settled_keys, transactions_of, AreTransactionsOf}

-- a list begins with another
pub record IsFront {X : Type 0} (front whole : List X) : Type 0 where
  pub rest : List X
  pub is : whole ≡ front ++ rest

-- the transactions of some branches that a mark settles, numbered behind a count
abbrev pub transactions_under : ℕ → ℕ → List CommittedBranch → List Transaction
transactions_under count mark branches = transactions_of branches (count + 1) (settled_keys mark branches)

-- law: whatever the branches and the mark, these are the transactions of the settled keys, each once, in order and whole
abbrev pub SettledOrderIsExact : Type 0
SettledOrderIsExact = (count mark : ℕ) (branches : List CommittedBranch)
    → AreTransactionsOf count mark branches None (transactions_under count mark branches)

-- law: a lesser mark settles a front of what a greater one does
abbrev pub LesserMarkSettlesAFront : Type 0
LesserMarkSettlesAFront = (count less mark : ℕ) (branches : List CommittedBranch) → less ≤ mark
    → IsFront (transactions_under count less branches) (transactions_under count mark branches)

-- a transaction has a first branch, and that one's seconds
pub record HasFirstSeconds (txn : Transaction) : Type 0 where
  pub first : CommittedBranch
  pub others : List CommittedBranch
  pub in_order : txn.branches ≡ first ∷ others
  pub dated : txn.seconds ≡ first.seconds

-- law: each settled transaction has a branch, and its seconds are the first one's
abbrev pub SecondsAreTheFirsts : Type 0
SecondsAreTheFirsts = (count mark : ℕ) (branches : List CommittedBranch) (txn : Transaction)
    → Contains (transactions_under count mark branches) txn → HasFirstSeconds txn
