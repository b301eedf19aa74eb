-- What a node gives to a merge: branches, and a bound below which it gives no more.
use Rattle.std.specs.Prelude.{◌≡◌, ◌≤◌, ℕ, true, false, List, ◌++◌, map, filter}
use Rattle.std.specs.List.{AllByRecursion, AllZip, flat_map, enumerate_from}
use Rattle.cdc_base.specs.declared.key.Key.{Key}
use Rattle.cdc_model.specs.declared.node_log.NodeLog.{NodeLog}
use Rattle.cdc_model.specs.Records.{CommittedBranch, Transaction}
use Rattle.cdc_model.specs.Watermark.{node_low_water_mark, low_water_mark}
use Rattle.cdc_model.specs.Soundness.{reached}
use Rattle.cdc_model.specs.Branch.{is_settled}
use Rattle.cdc_model.specs.Transaction.{has_key, settled_keys, node_branches, ordered_transactions}
use Rattle.cdc_model.specs.SettledOrder.{IsFront, transactions_under}

-- the branches of a key, as they stand
abbrev pub own_branches : List CommittedBranch → Key → List CommittedBranch
own_branches branches key = filter (has_key key) branches

-- the branches that a mark settles, key by key in order, and those of one key as they stand
abbrev pub settled_branches : ℕ → List CommittedBranch → List CommittedBranch
settled_branches mark branches = flat_map (own_branches branches) (settled_keys mark branches)

-- two lists have the same branches under each key that a mark settles
abbrev pub SameUnder : ℕ → List CommittedBranch → List CommittedBranch → Type 0
SameUnder mark branches others = (key : Key) → is_settled mark key ≡ true → own_branches branches key ≡ own_branches others key

-- law: a mark settles the same transactions of lists that have the same branches under it
abbrev pub SameBranchesSameOrder : Type 0
SameBranchesSameOrder = (count mark : ℕ) (branches others : List CommittedBranch) → SameUnder mark branches others
    → transactions_under count mark branches ≡ transactions_under count mark others

-- what a node has given: its branches, and the bound that it told last, 0 where it has told none
pub record NodeFeed : Type 0 where
  pub branches : List CommittedBranch
  pub bound : ℕ

-- the least of the bounds that nodes have told last
abbrev pub least_bound : List NodeFeed → ℕ
least_bound feeds = low_water_mark (map (λ (feed : NodeFeed). feed.bound) feeds)

-- what all nodes have given, node 1 first
abbrev pub fed_branches : List NodeFeed → List CommittedBranch
fed_branches feeds = flat_map (λ (feed : NodeFeed). feed.branches) feeds

-- the transactions of what all nodes have given that the least of their bounds settles
abbrev pub merged_transactions : ℕ → List NodeFeed → List Transaction
merged_transactions count feeds = transactions_under count (least_bound feeds) (fed_branches feeds)

-- what a node promises of its feed, by its low-water mark and the committed branches of what it has read: it gives its settled
-- branches in their order; its bound is at most its mark; and what the bound settles was given before
pub record FeedsFrom (mark : ℕ) (committed : List CommittedBranch) (feed : NodeFeed) : Type 0 where
  pub first : IsFront feed.branches (settled_branches mark committed)
  pub low : feed.bound ≤ mark
  pub told : IsFront (settled_branches feed.bound committed) feed.branches

-- a feed goes on: further branches, none of which the old bound settles, and a bound that isn't lower
pub record FeedGrows (old new : NodeFeed) : Type 0 where
  pub more : List CommittedBranch
  pub goes_on : new.branches ≡ old.branches ++ more
  pub above : AllByRecursion (λ (branch : CommittedBranch). is_settled old.bound branch.key ≡ false) more
  pub bounded : old.bound ≤ new.bound

-- feeds of the logs of all nodes, read from their starting points, with keys above a last one
abbrev pub AreFeedsOf : Key → List NodeLog → List NodeFeed → Type 0
AreFeedsOf last logs feeds =
    AllZip (λ (node : ℕ × NodeLog) (feed : NodeFeed). FeedsFrom (node_low_water_mark (reached node.1)) (node_branches last node) feed)
    (enumerate_from 1 logs) feeds

-- feeds that have told the low-water marks of their logs
abbrev pub AreToldOf : List NodeLog → List NodeFeed → Type 0
AreToldOf logs feeds = AllZip (λ (log : NodeLog) (feed : NodeFeed). feed.bound ≡ node_low_water_mark (reached log)) logs feeds

-- law: what the nodes have given, merged under the least of their bounds, is a front of the global order; all of it where each
-- has told its low-water mark
pub record MergesTo (count : ℕ) (last : Key) (logs : List NodeLog) (feeds : List NodeFeed) : Type 0 where
  pub front : IsFront (merged_transactions count feeds) (ordered_transactions count last logs)
  pub whole : AreToldOf logs feeds → merged_transactions count feeds ≡ ordered_transactions count last logs

-- law: what the nodes have given merges to the global order
abbrev pub FeedsMergeToOrder : Type 0
FeedsMergeToOrder = (count : ℕ) (last : Key) (logs : List NodeLog) (feeds : List NodeFeed)
    → AreFeedsOf last logs feeds → MergesTo count last logs feeds

-- law: what is merged of feeds stays a front of what is merged where they have gone on
abbrev pub LaterFeedsGoOn : Type 0
LaterFeedsGoOn = (count : ℕ) (olds news : List NodeFeed) → AllZip FeedGrows olds news
    → IsFront (merged_transactions count olds) (merged_transactions count news)

-- what merging has given of feeds: a front of their merged transactions
pub record HasMerged (count : ℕ) (feeds : List NodeFeed) (gave : List Transaction) : Type 0 where
  pub first : IsFront gave (merged_transactions count feeds)

-- law: a node that settles more has given a front: its settled branches under a lesser mark begin those under a greater
abbrev pub SettledBranchesGoOn : Type 0
SettledBranchesGoOn = (less mark : ℕ) (branches : List CommittedBranch) → less ≤ mark
    → IsFront (settled_branches less branches) (settled_branches mark branches)
