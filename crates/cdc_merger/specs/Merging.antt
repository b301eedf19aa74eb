-- What a merger has given of what the nodes gave to it.
use Rattle.std.specs.Prelude.{◌≡◌, ◌≤◌, ◌<◌, ◌*◌, ◌^◌, ℕ, zero, suc, ◌+◌, true, false, not, List, [], ◌∷◌, ◌++◌, map, filter, length, ◌-◌, Option, Some, None, ◌⊎◌}
use Rattle.std.specs.List.{AllByRecursion}
use Rattle.cdc_base.specs.declared.key.Key.{Key}
use Rattle.cdc_model.specs.Records.{CommittedBranch, Transaction}
use Rattle.cdc_model.specs.Branch.{is_settled}
use Rattle.cdc_model.specs.SettledOrder.{transactions_under}
use Rattle.cdc_model.specs.Feed.{NodeFeed, least_bound, fed_branches, merged_transactions}
use Rattle.cdc_merger.specs.Heads.{HasNoHead, head_count}
use Rattle.cdc_merger.specs.Feeding.{is_behind, ComeInOrder, with_branch, with_bound, changed_at}
use Rattle.cdc_merger.specs.Rounds.{heads_under}
use Rattle.cdc_merger.specs.declared.merger.Merger.TheInside.{Inside as InsideMerger}

-- what a merger keeps: how many transactions were given; of each node what waits and the bound that it told last; the heads that
-- were entered and not yet given, and the bound that settled them
pub record Merging : Type 0 where
  pub count : ℕ
  pub nodes : List NodeFeed
  pub heads : List (Option Key)
  pub round : ℕ

-- a merger's heads are those that a bound settles, which isn't above the least that is told now; or there is none
abbrev pub IsInRound : Merging → List NodeFeed → Type 0
IsInRound merger feeds = HasNoHead merger.heads ⊎ ((merger.heads ≡ heads_under merger.round merger.nodes) × (merger.round ≤ least_bound feeds))

-- a node's branches come in order of key, all above a last key
pub record IsOrderedFeed (last : Key) (feed : NodeFeed) : Type 0 where
  pub order : ComeInOrder feed.branches
  pub above : AllByRecursion (λ (branch : CommittedBranch). is_behind last branch ≡ true) feed.branches

-- what of a feed stands behind a key
abbrev pub feed_behind : Key → NodeFeed → NodeFeed
feed_behind last feed = record { branches = filter (is_behind last) feed.branches; bound = feed.bound }

-- what of all feeds doesn't stand behind a key
abbrev pub fed_up_to : Key → List NodeFeed → List CommittedBranch
fed_up_to last feeds = filter (λ (branch : CommittedBranch). not (is_behind last branch)) (fed_branches feeds)

-- the key of the last transaction, and another before the first
abbrev pub last_key : Key → List Transaction → Key
last_key last [] = last
last_key last (txn ∷ txns) = last_key txn.key txns

-- feeds that one node, counted from 1, has given a branch besides
abbrev pub given_branch : ℕ → CommittedBranch → List NodeFeed → List NodeFeed
given_branch node branch feeds = changed_at (with_branch branch) (node - 1) feeds

-- feeds of which one node, counted from 1, has told a bound besides
abbrev pub told_bound : ℕ → ℕ → List NodeFeed → List NodeFeed
told_bound node bound feeds = changed_at (with_bound bound) (node - 1) feeds

-- feeds of nodes that have given and told nothing
abbrev pub no_feeds : ℕ → List NodeFeed
no_feeds zero = []
no_feeds (suc nodes) = record { branches = []; bound = 0 } ∷ no_feeds nodes

-- each node's branches come in order of key, all above a last key
abbrev pub AreOrderedFeeds : Key → List NodeFeed → Type 0
AreOrderedFeeds last feeds = AllByRecursion (IsOrderedFeed last) feeds

-- the merger has given these transactions of what the nodes gave and told, numbered behind a count, with keys above a last one
pub record Merges (merger : Merging) (count : ℕ) (last : Key) (feeds : List NodeFeed) (gave : List Transaction) : Type 0 where
  pub counted : merger.count ≡ count + length gave
  pub waits : merger.nodes ≡ map (feed_behind (last_key last gave)) feeds
  pub ordered : AreOrderedFeeds last feeds
  pub settled : (last_key last gave ≡ last) ⊎ (is_settled (least_bound feeds) (last_key last gave) ≡ true)
  pub gives : (mark : ℕ) → least_bound feeds ≤ mark → transactions_under count mark (fed_up_to (last_key last gave) feeds) ≡ gave
  pub in_round : IsInRound merger feeds

-- a merger that has given these transactions, and whose heads are those of a round
pub record IsRoundOf (merger : Merging) (count : ℕ) (last : Key) (feeds : List NodeFeed) (gave : List Transaction) : Type 0 where
  pub merges : Merges merger count last feeds gave
  pub entered : merger.heads ≡ heads_under merger.round merger.nodes
  pub low : merger.round ≤ least_bound feeds

-- a node gives a branch in order, and before a bound that settles it
pub record IsGivenInTime (last : Key) (node : ℕ) (branch : CommittedBranch) (feeds : List NodeFeed) : Type 0 where
  pub ordered : AreOrderedFeeds last (given_branch node branch feeds)
  pub early : is_settled (least_bound feeds) branch.key ≡ false
  pub above : is_behind last branch ≡ true

-- a merger as what it keeps
abbrev pub merger_seen : InsideMerger → Merging
merger_seen merger = record { count = merger.count; nodes = merger.nodes.items; heads = merger.heads; round = merger.round }

-- there is a place for a head of each node
pub record HasPlaces (merger : InsideMerger) : Type 0 where
  pub many : length merger.heads ≡ length merger.nodes.items
  pub room : length merger.entering.items ≡ length merger.nodes.items

-- what `next` answers: nothing, where all is given that the bounds settle; or the next transaction
abbrev pub GivesNext : Merging → Merging → ℕ → Key → List NodeFeed → List Transaction → Option Transaction → Type 0
GivesNext old new count last feeds gave None = (gave ≡ merged_transactions count feeds) × (new ≡ old)
GivesNext old new count last feeds gave (Some txn) = Merges new count last feeds (gave ++ txn ∷ [])

-- how many branches transactions have
abbrev pub branches_in : List Transaction → ℕ
branches_in [] = 0
branches_in (txn ∷ txns) = length txn.branches + branches_in txns

-- the comparisons since a start: for each branch given at most one more than the count of nodes has binary digits, and one for
-- each head that is entered
abbrev pub HasCounted : Merging → ℕ → ℕ → List Transaction → Type 0
HasCounted merger start steps gave = (digits : ℕ) → length merger.nodes < 2 ^ digits
    → steps ≤ start + (digits + 1) * branches_in gave + head_count merger.heads

-- the comparisons after an answer: where nothing was given, none is for a head that is entered
abbrev pub CountsNext : Merging → ℕ → ℕ → List Transaction → Option Transaction → Type 0
CountsNext merger start steps gave None = (digits : ℕ) → length merger.nodes < 2 ^ digits → steps ≤ start + (digits + 1) * branches_in gave
CountsNext merger start steps gave (Some txn) = HasCounted merger start steps (gave ++ txn ∷ [])
