-- The matches of a tournament, and what they know of the heads.
use Rattle.std.specs.Prelude.{◌≡◌, ◌≤◌, ◌<◌, ◌+◌, ◌-◌, ◌^◌, ℕ, List, Option, Some, None, length, nat_lt, if◌then◌else◌}
use Rattle.std.specs.declared.cmp.Ordering.{Ordering}
use Rattle.std.specs.declared.cmp.Ordering.TheVariants.{Less, Equal, Greater}
use Rattle.cdc_merger.specs.declared.bracket.Bracket.{Bracket, Seat, Match'}
use Rattle.cdc_merger.specs.Heads.{head_at}

-- a bracket seats the nodes from one to below another, in order, and one of them leads
abbrev pub Spans : ℕ → ℕ → Bracket → Type 0
Spans from to (Seat node) = (node ≡ from) × (to ≡ from + 1)
Spans from to (Match' p left q right middle leader) = Spans from middle left × Spans middle to right × (from < middle) × (middle < to) × (from ≤ leader) × (leader < to)

-- no node plays more matches than a depth
abbrev pub IsLow : ℕ → Bracket → Type 0
IsLow depth (Seat node) = Unit {0}
IsLow depth (Match' p left q right middle leader) = (0 < depth) × IsLow (depth - 1) left × IsLow (depth - 1) right

-- all seats and leaders lie below a count of nodes
abbrev pub AreSeats : ℕ → Bracket → Type 0
AreSeats count (Seat node) = node < count
AreSeats count (Match' p left q right middle leader) = AreSeats count left × AreSeats count right × (leader < count)

-- the node that leads
abbrev pub leader_of : Bracket → ℕ
leader_of (Seat node) = node
leader_of (Match' p left q right middle leader) = leader

-- of two nodes the one that a comparison of their heads puts first
abbrev pub by_order : Ordering → ℕ → ℕ → ℕ
by_order Less left right = left
by_order Equal left right = left
by_order Greater left right = right

-- of two nodes the one whose head is lesser, the left one in a tie
abbrev pub better_by : {K : Type 0} → (K → K → Ordering) → Option K → Option K → ℕ → ℕ → ℕ
better_by order None second left right = right
better_by order (Some a) None left right = left
better_by order (Some a) (Some b) left right = by_order (order a b) left right

-- of two nodes the one whose head is lesser, by the heads of all
abbrev pub better : {K : Type 0} → (K → K → Ordering) → List (Option K) → ℕ → ℕ → ℕ
better order heads left right = better_by order (head_at heads left) (head_at heads right) left right

-- a comparison, where both have a head
abbrev pub met_by : {K : Type 0} → Option K → Option K → ℕ
met_by None second = 0
met_by (Some a) None = 0
met_by (Some a) (Some b) = 1

-- a comparison, where two nodes both have a head
abbrev pub met : {K : Type 0} → List (Option K) → ℕ → ℕ → ℕ
met heads left right = met_by (head_at heads left) (head_at heads right)

-- a bracket with all matches played
abbrev pub played : {K : Type 0} → (K → K → Ordering) → List (Option K) → Bracket → Bracket
played order heads (Seat node) = Seat node
played order heads (Match' p left q right middle leader) =
    Match' p (played order heads left) q (played order heads right) middle
    (better order heads (leader_of (played order heads left)) (leader_of (played order heads right)))

-- the comparisons of all matches
abbrev pub play_count : {K : Type 0} → (K → K → Ordering) → List (Option K) → Bracket → ℕ
play_count order heads (Seat node) = 0
play_count order heads (Match' p left q right middle leader) =
    play_count order heads left + play_count order heads right
    + met heads (leader_of (played order heads left)) (leader_of (played order heads right))

-- a bracket with the matches of one node played
abbrev pub replayed : {K : Type 0} → (K → K → Ordering) → List (Option K) → ℕ → Bracket → Bracket
replayed order heads node (Seat seat) = Seat seat
replayed order heads node (Match' p left q right middle leader) =
    if nat_lt node middle then
    Match' p (replayed order heads node left) q right middle (better order heads (leader_of (replayed order heads node left)) (leader_of right))
    else
    Match' p left q (replayed order heads node right) middle (better order heads (leader_of left) (leader_of (replayed order heads node right)))

-- each match knows the better of its sides' leaders
abbrev pub IsPlayed : {K : Type 0} → (K → K → Ordering) → List (Option K) → Bracket → Type 0
IsPlayed order heads (Seat node) = Unit {0}
IsPlayed order heads (Match' p left q right middle leader) =
    IsPlayed order heads left × IsPlayed order heads right × (leader ≡ better order heads (leader_of left) (leader_of right))

-- the last node leads in each match
abbrev pub IsIdle : Bracket → Type 0
IsIdle (Seat node) = Unit {0}
IsIdle (Match' p left q right middle leader) = IsIdle left × IsIdle right × (leader ≡ leader_of right)

-- a bracket of all nodes, played, and as low as it can be
pub record IsBracketOf {K : Type 0} (order : K → K → Ordering) (heads : List (Option K)) (bracket : Bracket) : Type 0 where
  pub spans : Spans 0 (length heads) bracket
  pub is_played : IsPlayed order heads bracket
  pub low : (depth : ℕ) → length heads ≤ 2 ^ depth → IsLow depth bracket
