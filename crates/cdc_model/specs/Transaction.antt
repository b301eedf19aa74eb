-- The global order: which transactions are settled, in which order, and under which numbers.
use Rattle.std.specs.Prelude.{◌≡◌, ℕ, zero, suc, ◌+◌, ◌^◌, ◌<◌, ◌≤◌, ◌↔◌, nat_lt, Bool, IsTrue, List, [], ◌∷◌, map, filter, length, if◌then◌else◌, slice_get, Option, Some, None, Contains}
use Rattle.std.specs.List.{flat_map, enumerate_from, fold, find, before_first, sum_by}
use Rattle.std.specs.List.Sorted.{IsStrictlySortedBy}
use Rattle.std.specs.Ordering.{is_eq}
use Rattle.std.specs.declared.cmp.Ordering.{Ordering}
use Rattle.std.specs.declared.cmp.Ordering.TheVariants.{Less, Equal, Greater}
use Rattle.cdc_base.specs.declared.key.Key.{Key}
use Rattle.cdc_base.specs.declared.rename.Rename.{Rename}
use Rattle.cdc_base.specs.Key.{key_order, first_key}
use Rattle.cdc_model.specs.declared.node_log.NodeLog.{NodeLog}
use Rattle.cdc_model.specs.Records.{CommittedBranch, Transaction}
use Rattle.cdc_model.specs.Watermark.{node_low_water_mark, low_water_mark}
use Rattle.cdc_model.specs.Soundness.{sound_history, reached}
use Rattle.cdc_model.specs.Branch.{committed_branches, is_settled}
use Rattle.cdc_model.specs.Print.{printed_length}

-- the committed branches of one node, and of all nodes, node 1 first
abbrev pub node_branches : Key → ℕ × NodeLog → List CommittedBranch
node_branches last node = committed_branches last node.1.start node.0 (sound_history node.1)

-- the committed branches of all nodes above a last key, node 1 first
abbrev pub all_branches : Key → List NodeLog → List CommittedBranch
all_branches last logs = flat_map (node_branches last) (enumerate_from 1 logs)

-- how many entries logs have
abbrev pub entries_in : List NodeLog → ℕ
entries_in logs = sum_by (λ (log : NodeLog). length log.entries) logs

-- the low-water mark of all logs
abbrev pub logs_low_water_mark : List NodeLog → ℕ
logs_low_water_mark logs = low_water_mark (map (λ log. node_low_water_mark (reached log)) logs)

-- a key at its place among others in order; one that is there already is dropped
abbrev pub placed_key : Ordering → Key → Key → List Key → List Key → List Key
placed_key Less key first rest later = key ∷ first ∷ rest
placed_key Equal key first rest later = first ∷ rest
placed_key Greater key first rest later = first ∷ later

-- a key at its place among keys in order, unless it is there
abbrev pub put : Key → List Key → List Key
put key [] = key ∷ []
put key (first ∷ rest) = placed_key (key_order key first) key first rest (put key rest)

-- the settled keys of some branches, in order, each once
abbrev pub add_settled : ℕ → List Key → CommittedBranch → List Key
add_settled mark keys branch = if is_settled mark branch.key then put branch.key keys else keys

-- the settled keys of branches, in order, each once
abbrev pub settled_keys : ℕ → List CommittedBranch → List Key
settled_keys mark branches = fold (add_settled mark) [] branches

-- a branch belongs to the transaction of its key
abbrev pub has_key : Key → CommittedBranch → Bool
has_key key branch = is_eq (key_order key branch.key)

-- the first branch's seconds
abbrev pub first_seconds : List CommittedBranch → ℕ
first_seconds [] = 0
first_seconds (branch ∷ branches) = branch.seconds

-- the transaction of a key: all branches under it, by node and then by entry
abbrev pub transaction_of : List CommittedBranch → ℕ → Key → Transaction
transaction_of branches number key =
    let own = filter (has_key key) branches in
    record { number = number; key = key; seconds = first_seconds own; branches = own }

-- the transactions of some keys, numbered one after another
abbrev pub transactions_of : List CommittedBranch → ℕ → List Key → List Transaction
transactions_of branches number [] = []
transactions_of branches number (key ∷ keys) = transaction_of branches number key ∷ transactions_of branches (number + 1) keys

-- all transactions whose keys are settled, in the global order; the numbers go on behind a count, and the keys
-- lie above a last one
abbrev pub ordered_transactions : ℕ → Key → List NodeLog → List Transaction
ordered_transactions count last logs =
    let branches = all_branches last logs in
    transactions_of branches (count + 1) (settled_keys (logs_low_water_mark logs) branches)

-- a transaction whose print has more than 2^28 bytes ends the order
abbrev pub is_oversized : List Rename → Transaction → Bool
is_oversized rules txn = nat_lt (2 ^ 28) (printed_length rules txn)

-- the settled transactions: those in the global order before the first oversized one
abbrev pub settled_transactions : List Rename → ℕ → Key → List NodeLog → List Transaction
settled_transactions rules count last logs = before_first (is_oversized rules) (ordered_transactions count last logs)

-- the oversized transaction, where there is one
abbrev pub oversized_transaction : List Rename → ℕ → Key → List NodeLog → Option Transaction
oversized_transaction rules count last logs = find (is_oversized rules) (ordered_transactions count last logs)

-- the key of the n-th transaction, and before the first the key before all others
abbrev pub key_or_first : Option Transaction → Key
key_or_first None = first_key
key_or_first (Some txn) = txn.key

-- the key of the n-th transaction, and the key before all others for 0
abbrev pub key_at : List Transaction → ℕ → Key
key_at txns zero = first_key
key_at txns (suc before) = key_or_first (slice_get txns before)

-- numbers one after another
abbrev pub numbers_from : ℕ → ℕ → List ℕ
numbers_from first zero = []
numbers_from first (suc count) = first ∷ numbers_from (first + 1) count

-- a key below that of the transaction that ends the order, where there is one
abbrev pub IsBelow : Option Transaction → Key → Type 0
IsBelow None key = Unit {0}
IsBelow (Some txn) key = key_order key txn.key ≡ Less

-- a key that is settled, that some branch has, and that stands below the end of the order
pub record IsSettledKey (mark : ℕ) (branches : List CommittedBranch) (end : Option Transaction) (key : Key) : Type 0 where
  pub settled : IsTrue (is_settled mark key)
  pub present : Contains (map (λ (branch : CommittedBranch). branch.key) branches) key
  pub below : IsBelow end key

-- what the global order means: keys strictly ascend, and are exactly the settled keys of the branches; each
-- transaction has all branches of its key, in their order, and the first one's seconds; numbers go on behind the
-- count
pub record AreTransactionsOf (count mark : ℕ) (branches : List CommittedBranch) (end : Option Transaction) (txns : List Transaction) : Type 0 where
  pub ascending : IsStrictlySortedBy key_order (map (λ (txn : Transaction). txn.key) txns)
  pub exact : (key : Key) → Contains (map (λ (txn : Transaction). txn.key) txns) key ↔ IsSettledKey mark branches end key
  pub whole : (txn : Transaction) → Contains txns txn → txn.branches ≡ filter (has_key txn.key) branches
  pub dated : (txn : Transaction) → Contains txns txn → txn.seconds ≡ first_seconds txn.branches
  pub numbered : map (λ (txn : Transaction). txn.number) txns ≡ numbers_from (count + 1) (length txns)

-- law: the ordered transactions are those of all settled keys
abbrev pub OrderIsExact : Type 0
OrderIsExact = (count : ℕ) (last : Key) (logs : List NodeLog)
    → AreTransactionsOf count (logs_low_water_mark logs) (all_branches last logs) None (ordered_transactions count last logs)

-- law: the settled transactions are those of the settled keys below the oversized transaction's
abbrev pub SettledIsExact : Type 0
SettledIsExact = (rules : List Rename) (count : ℕ) (last : Key) (logs : List NodeLog)
    → AreTransactionsOf count (logs_low_water_mark logs) (all_branches last logs) (oversized_transaction rules count last logs) (settled_transactions rules count last logs)

-- law: a settled transaction's print has at most 2^28 bytes, the oversized one's has more
pub record OversizedEnds (rules : List Rename) (settled : List Transaction) (oversized : Option Transaction) : Type 0 where
  pub fits : (txn : Transaction) → Contains settled txn → printed_length rules txn ≤ 2 ^ 28
  pub above : (txn : Transaction) → oversized ≡ Some txn → 2 ^ 28 < printed_length rules txn

-- law: what is settled fits, and what ends it does not
abbrev pub SettledFit : Type 0
SettledFit = (rules : List Rename) (count : ℕ) (last : Key) (logs : List NodeLog)
    → OversizedEnds rules (settled_transactions rules count last logs) (oversized_transaction rules count last logs)
