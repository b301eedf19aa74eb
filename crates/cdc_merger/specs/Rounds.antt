-- The heads that a merger has entered, and what it gathers of a key by them.
use Rattle.std.specs.Prelude.{◌≡◌, ◌≤◌, ◌<◌, ◌+◌, ◌*◌, ◌^◌, ℕ, true, List, [], ◌∷◌, ◌++◌, map, length, drop, slice_index_or, Option, Some, None, if◌then◌else◌}
use Rattle.std.specs.List.{AllByRecursion}
use Rattle.std.specs.declared.cmp.Ordering.TheVariants.{Less}
use Rattle.cdc_base.specs.declared.key.Key.{Key}
use Rattle.cdc_base.specs.Key.{key_order}
use Rattle.cdc_model.specs.Records.{CommittedBranch}
use Rattle.cdc_model.specs.Branch.{is_settled}
use Rattle.cdc_model.specs.Feed.{NodeFeed}
use Rattle.cdc_merger.specs.Heads.{head_at, head_count}
use Rattle.cdc_merger.specs.Feeding.{ComeInOrder, NoHeadIsBelow, fronts_of, without_front}

-- the first key that waits, where a mark settles it
abbrev pub head_under : ℕ → List CommittedBranch → Option Key
head_under mark [] = None
head_under mark (branch ∷ branches) = if is_settled mark branch.key then Some branch.key else None

-- the first keys of all nodes that a mark settles
abbrev pub heads_under : ℕ → List NodeFeed → List (Option Key)
heads_under mark feeds = map (λ (feed : NodeFeed). head_under mark feed.branches) feeds

-- a node, counted from 0
abbrev pub node_at : List NodeFeed → ℕ → NodeFeed
node_at feeds node = slice_index_or feeds node (record { branches = []; bound = 0 })

-- a head stands behind a key, where there is one
abbrev pub StandsBehind : Key → Option Key → Type 0
StandsBehind key None = Unit {0}
StandsBehind key (Some head) = key_order key head ≡ Less

-- all is ready to gather a key's branches from a node on: nothing waits below the key, and each head is what a round has entered
pub record CanGather (round : ℕ) (key : Key) (from : ℕ) (nodes : List NodeFeed) (heads : List (Option Key)) : Type 0 where
  pub settled : is_settled round key ≡ true
  pub ordered : AllByRecursion (λ (feed : NodeFeed). ComeInOrder feed.branches) nodes
  pub above : NoHeadIsBelow key nodes
  pub many : length heads ≡ length nodes
  pub waits : (node : ℕ) → from ≤ node → head_at heads node ≡ head_under round (node_at nodes node).branches
  pub passed : (node : ℕ) → node < from → StandsBehind key (head_at heads node)

-- what was gathered of a key from a node on
pub record GathersKey (round : ℕ) (key : Key) (from : ℕ) (nodes news : List NodeFeed) (heads new_heads : List (Option Key)) (own new_own : List CommittedBranch) : Type 0 where
  pub gathered : new_own ≡ own ++ fronts_of key (drop from nodes)
  pub before : (node : ℕ) → node < from → node_at news node ≡ node_at nodes node
  pub behind : (node : ℕ) → from ≤ node → node_at news node ≡ without_front key (node_at nodes node)
  pub kept : (node : ℕ) → node < from → head_at new_heads node ≡ head_at heads node
  pub entered : (node : ℕ) → from ≤ node → head_at new_heads node ≡ head_under round (without_front key (node_at nodes node)).branches

-- what gathering may cost: for each branch more one comparison more than the count of nodes has digits; a head that was entered
-- has been paid for, one that was given out is to be paid for
abbrev pub TakesFew : ℕ → ℕ → ℕ → List (Option Key) → List (Option Key) → List CommittedBranch → List CommittedBranch → Type 0
TakesFew nodes steps end heads new_heads own new_own = (digits : ℕ) → nodes < 2 ^ digits
    → end + head_count heads + (digits + 1) * length own ≤ steps + head_count new_heads + (digits + 1) * length new_own
