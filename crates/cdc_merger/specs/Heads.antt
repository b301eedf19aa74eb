-- One head a node, or none, and which node has the least.
use Rattle.std.specs.Prelude.{◌≡◌, ◌≤◌, ◌<◌, ◌+◌, ◌⊎◌, ℕ, zero, suc, List, [], ◌∷◌, Option, Some, None, length, slice_index_or}
use Rattle.std.specs.List.{AllByRecursion}
use Rattle.std.specs.declared.cmp.Ordering.{Ordering}
use Rattle.std.specs.declared.cmp.Ordering.TheVariants.{Less, Equal}

-- the places of so many nodes without a head
abbrev pub no_heads : (K : Type 0) → ℕ → List (Option K)
no_heads K zero = []
no_heads K (suc nodes) = None ∷ no_heads K nodes

-- no node has a head
abbrev pub HasNoHead : {K : Type 0} → List (Option K) → Type 0
HasNoHead {K} heads = AllByRecursion (λ (head : Option K). head ≡ None) heads

-- some node has a head
abbrev pub HasHead : {K : Type 0} → List (Option K) → Type 0
HasHead heads = HasNoHead heads → ⊥

-- 1 for a head, 0 for none
abbrev pub one_head : {K : Type 0} → Option K → ℕ
one_head None = 0
one_head (Some key) = 1

-- how many nodes have a head
abbrev pub head_count : {K : Type 0} → List (Option K) → ℕ
head_count [] = 0
head_count (head ∷ heads) = one_head head + head_count heads

-- the head of a node, counted from 0
abbrev pub head_at : {K : Type 0} → List (Option K) → ℕ → Option K
head_at heads node = slice_index_or heads node None

-- a node's head goes before another's: it is the lesser, or they tie and its node is; none goes last
abbrev pub GoesBefore : {K : Type 0} → (K → K → Ordering) → ℕ → Option K → ℕ → Option K → Type 0
GoesBefore order node head other None = Unit {0}
GoesBefore order node None other (Some b) = ⊥
GoesBefore order node (Some a) other (Some b) = (order a b ≡ Less) ⊎ ((order a b ≡ Equal) × node ≤ other)

-- a node has this head, which goes before all others
pub record LeadsWith {K : Type 0} (order : K → K → Ordering) (heads : List (Option K)) (node : ℕ) (head : K) : Type 0 where
  pub within : node < length heads
  pub has : head_at heads node ≡ Some head
  pub first : (other : ℕ) → GoesBefore order node (Some head) other (head_at heads other)

-- a node has a head, which goes before all others
pub record IsLeader {K : Type 0} (order : K → K → Ordering) (heads : List (Option K)) (node : ℕ) : Type 0 where
  pub head : K
  pub leads : LeadsWith order heads node head
