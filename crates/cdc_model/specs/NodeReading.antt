-- What a node gives while it reads on: its settled branches, the order in which they stand, and the steps of its feed.
use Rattle.std.specs.Prelude.{◌≡◌, ◌⊎◌, ◌≤◌, ◌<◌, ℕ, true, List, [], ◌∷◌, ◌++◌, None}
use Rattle.std.specs.List.{AllByRecursion}
use Rattle.std.specs.Ordering.{is_gt}
use Rattle.std.specs.declared.cmp.Ordering.TheVariants.{Less}
use Rattle.cdc_base.specs.declared.key.Key.{Key}
use Rattle.cdc_base.specs.Key.{key_order}
use Rattle.cdc_model.specs.Records.{LogEntry, CommittedBranch, Start}
use Rattle.cdc_model.specs.Start.{left_by}
use Rattle.cdc_model.specs.Watermark.{node_low_water_mark}
use Rattle.cdc_model.specs.Soundness.{entry_fault}
use Rattle.cdc_model.specs.Branch.{committed_branches, is_settled}
use Rattle.cdc_model.specs.SettledOrder.{IsFront}
use Rattle.cdc_model.specs.Feed.{NodeFeed, settled_branches, FeedsFrom, FeedGrows}

-- a node's low-water mark behind a history
abbrev pub low_behind : Start → List LogEntry → ℕ
low_behind start history = node_low_water_mark (left_by start history)

-- the branches that a node's own mark settles behind a history, with keys above a last one
abbrev pub node_settled : Key → Start → ℕ → List LogEntry → List CommittedBranch
node_settled last start node history = settled_branches (low_behind start history) (committed_branches last start node history)

-- a feed of a node that has read a history
abbrev pub FeedsBehind : Key → Start → ℕ → List LogEntry → NodeFeed → Type 0
FeedsBehind last start node history feed = FeedsFrom (low_behind start history) (committed_branches last start node history) feed

-- nothing given, and no bound told
abbrev pub no_feed : NodeFeed
no_feed = record { branches = []; bound = 0 }

-- a branch more, and another bound
abbrev pub feed_with : NodeFeed → CommittedBranch → NodeFeed
feed_with feed branch = record { branches = feed.branches ++ branch ∷ []; bound = feed.bound }

-- the same branches, and another bound
abbrev pub feed_told : NodeFeed → ℕ → NodeFeed
feed_told feed bound = record { branches = feed.branches; bound = bound }

-- law: a node that has read nothing feeds nothing
abbrev pub FeedBegins : Type 0
FeedBegins = (last : Key) (start : Start) (node : ℕ) → FeedsBehind last start node [] no_feed

-- a sound entry more: the mark doesn't fall, what it settled stays in front, and a feed is one still
pub record ReadsOn (last : Key) (start : Start) (node : ℕ) (history : List LogEntry) (entry : LogEntry) : Type 0 where
  pub low : low_behind start history ≤ low_behind start (entry ∷ history)
  pub settled : IsFront (node_settled last start node history) (node_settled last start node (entry ∷ history))
  pub feeds : (feed : NodeFeed) → FeedsBehind last start node history feed → FeedsBehind last start node (entry ∷ history) feed

-- law: each sound entry is read on so: the mark doesn't fall, and a feed stays one
abbrev pub FeedReadsOn : Type 0
FeedReadsOn = (last : Key) (start : Start) (node : ℕ) (history : List LogEntry) (entry : LogEntry)
    → entry_fault entry.kind (left_by start history) ≡ None → ReadsOn last start node history entry

-- a branch more: the feed is one still, and the bound that was told doesn't settle that branch
pub record GivesOn (mark : ℕ) (committed : List CommittedBranch) (feed : NodeFeed) (branch : CommittedBranch) : Type 0 where
  pub feeds : FeedsFrom mark committed (feed_with feed branch)
  pub grows : FeedGrows feed (feed_with feed branch)

-- law: the next settled branch goes on a feed, and lies above the bound that was told
abbrev pub FeedGives : Type 0
FeedGives = (mark : ℕ) (committed : List CommittedBranch) (feed : NodeFeed) (branch : CommittedBranch)
    → FeedsFrom mark committed feed → IsFront (feed.branches ++ branch ∷ []) (settled_branches mark committed) → GivesOn mark committed feed branch

-- the mark told: the feed is one still, and its bound didn't fall
pub record TellsOn (mark : ℕ) (committed : List CommittedBranch) (feed : NodeFeed) : Type 0 where
  pub feeds : FeedsFrom mark committed (feed_told feed mark)
  pub grows : FeedGrows feed (feed_told feed mark)

-- law: where all settled branches were given, the mark may be told
abbrev pub FeedTells : Type 0
FeedTells = (mark : ℕ) (committed : List CommittedBranch) (feed : NodeFeed)
    → FeedsFrom mark committed feed → feed.branches ≡ settled_branches mark committed → TellsOn mark committed feed

-- a branch stands before another: by key, and under one key by the number of the entry that committed it
abbrev pub StandsBefore : CommittedBranch → CommittedBranch → Type 0
StandsBefore a b = (key_order a.key b.key ≡ Less) ⊎ ((a.key ≡ b.key) × (a.entry < b.entry))

-- branches of which each stands before all behind it
abbrev pub StandInOrder : List CommittedBranch → Type 0
StandInOrder [] = Unit {0}
StandInOrder (branch ∷ branches) = AllByRecursion (StandsBefore branch) branches × StandInOrder branches

-- branches in a node's order: by key and entry, each with a settled key above the last one
pub record IsNodeOrder (last : Key) (mark : ℕ) (branches : List CommittedBranch) : Type 0 where
  pub ordered : StandInOrder branches
  pub settled : AllByRecursion (λ (branch : CommittedBranch). is_settled mark branch.key ≡ true) branches
  pub above : AllByRecursion (λ (branch : CommittedBranch). is_gt (key_order branch.key last) ≡ true) branches

-- law: a node's settled branches stand by key and entry, each with a settled key above the last one
abbrev pub NodeSettledInOrder : Type 0
NodeSettledInOrder = (last : Key) (mark : ℕ) (start : Start) (node : ℕ) (history : List LogEntry)
    → IsNodeOrder last mark (settled_branches mark (committed_branches last start node history))
