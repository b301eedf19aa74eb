-- Branches that come in order of key, and what stands in front of them.
use Rattle.std.specs.Prelude.{◌≡◌, ℕ, zero, suc, Bool, false, List, [], ◌∷◌, ◌++◌, map, Contains, Option, Some, None, if◌then◌else◌}
use Rattle.std.specs.List.{AllByRecursion, flat_map}
use Rattle.std.specs.Ordering.{is_lt}
use Rattle.std.specs.declared.cmp.Ordering.TheVariants.{Less}
use Rattle.cdc_base.specs.declared.key.Key.{Key}
use Rattle.cdc_base.specs.Key.{key_order}
use Rattle.cdc_model.specs.Records.{CommittedBranch}
use Rattle.cdc_model.specs.Transaction.{has_key}
use Rattle.cdc_model.specs.Feed.{NodeFeed, fed_branches}
use Rattle.cdc_merger.specs.declared.node.Node.TheInside.{Inside as InsideNode}

-- a branch's key stands behind a key
abbrev pub is_behind : Key → CommittedBranch → Bool
is_behind last branch = is_lt (key_order last branch.key)

-- no branch's key stands below a key
abbrev pub NoneIsBelow : Key → List CommittedBranch → Type 0
NoneIsBelow key branches = AllByRecursion (λ (branch : CommittedBranch). key_order branch.key key ≡ Less → ⊥) branches

-- branches come in order of key
abbrev pub ComeInOrder : List CommittedBranch → Type 0
ComeInOrder [] = Unit {0}
ComeInOrder (branch ∷ branches) = NoneIsBelow branch.key branches × ComeInOrder branches

-- a list with one of its items changed, counted from 0
abbrev pub changed_at : {X : Type 0} → (X → X) → ℕ → List X → List X
changed_at change index [] = []
changed_at change zero (x ∷ xs) = change x ∷ xs
changed_at change (suc index) (x ∷ xs) = x ∷ changed_at change index xs

-- a feed with one branch more, or with another bound
abbrev pub with_branch : CommittedBranch → NodeFeed → NodeFeed
with_branch branch feed = record { branches = feed.branches ++ branch ∷ []; bound = feed.bound }

-- a feed with another bound
abbrev pub with_bound : ℕ → NodeFeed → NodeFeed
with_bound bound feed = record { branches = feed.branches; bound = bound }

-- the branches of a key in front, and what stands behind them
abbrev pub front_of : Key → List CommittedBranch → List CommittedBranch
front_of key [] = []
front_of key (branch ∷ branches) = if has_key key branch then branch ∷ front_of key branches else []

-- what stands behind the branches of a key in front
abbrev pub behind_front : Key → List CommittedBranch → List CommittedBranch
behind_front key [] = []
behind_front key (branch ∷ branches) = if has_key key branch then behind_front key branches else branch ∷ branches

-- a feed without the branches of a key in front
abbrev pub without_front : Key → NodeFeed → NodeFeed
without_front key feed = record { branches = behind_front key feed.branches; bound = feed.bound }

-- the branches of a key in front of all feeds, by node
abbrev pub fronts_of : Key → List NodeFeed → List CommittedBranch
fronts_of key feeds = flat_map (λ (feed : NodeFeed). front_of key feed.branches) feeds

-- a first branch, where there is one, doesn't stand below a key
abbrev pub HeadIsNotBelow : Key → List CommittedBranch → Type 0
HeadIsNotBelow key [] = Unit {0}
HeadIsNotBelow key (branch ∷ branches) = key_order branch.key key ≡ Less → ⊥

-- no node's first branch stands below a key
abbrev pub NoHeadIsBelow : Key → List NodeFeed → Type 0
NoHeadIsBelow key feeds = AllByRecursion (λ (feed : NodeFeed). HeadIsNotBelow key feed.branches) feeds

-- a key is that of a branch of some node
abbrev pub IsFed : Key → List NodeFeed → Type 0
IsFed key feeds = Contains (map (λ (branch : CommittedBranch). branch.key) (fed_branches feeds)) key

-- the least of the first keys, where there is a branch
abbrev pub IsLeastHead : Option Key → List NodeFeed → Type 0
IsLeastHead None feeds = fed_branches feeds ≡ []
IsLeastHead (Some key) feeds = NoHeadIsBelow key feeds × IsFed key feeds

-- a node's first key, where there is a branch
abbrev pub first_of : List CommittedBranch → Option Key
first_of [] = None
first_of (branch ∷ branches) = Some branch.key

-- a node as what waits of it and the bound that it told last
abbrev pub node_seen : InsideNode → NodeFeed
node_seen node = record { branches = node.waiting.items; bound = node.bound }

-- the first branch is there, and has a key
abbrev pub begins_with : Key → List CommittedBranch → Bool
begins_with key [] = false
begins_with key (branch ∷ branches) = has_key key branch
