-- What a sorter's trail tells of the points of its log.
use Rattle.std.specs.Prelude.{◌≡◌, ◌⊎◌, ◌≤◌, ◌<◌, ℕ, ◌+◌, true, List, [], ◌∷◌, length, reverse}
use Rattle.std.specs.List.{AllByRecursion}
use Rattle.std.specs.Ordering.{is_gt}
use Rattle.cdc_base.specs.Key.{key_order}
use Rattle.cdc_model.specs.Records.{LogEntry, OpenBranch}
use Rattle.cdc_model.specs.Branch.{Begun, begun_branches}
use Rattle.cdc_model.specs.Restart.{RestartPoint, start_at, point_behind, point_before}
use Rattle.cdc_open.specs.Standing.{StandingBranch, branches_of}
use Rattle.cdc_sorter.specs.Trail.{Stand, EndedBranch, RecentBranch, Trail, Standings, stand_of, point_of}

-- some element has a property
abbrev pub SomeByRecursion : {X : Type 0} → (X → Type 0) → List X → Type 0
SomeByRecursion P [] = ⊥
SomeByRecursion P (x ∷ xs) = P x ⊎ SomeByRecursion P xs

-- the point before an entry of a history, with the branches that stood open there
pub record IsStand (from : RestartPoint) (history : List LogEntry) (opened : List OpenBranch) (ended : List EndedBranch) (stand : Stand) : Type 0 where
  pub first : from.entry ≤ stand.entry
  pub past : stand.entry < from.entry + length history
  pub is : point_before from (reverse history) stand.entry ≡ point_of opened ended stand

-- a branch began with the entry behind a point, and was committed under a key
abbrev pub BeganAt : RecentBranch → Begun → Type 0
BeganAt r b = (b.0 ≡ r.stand.entry) × (b.1.key ≡ r.key)

-- a trail tells the points of a history that was read from another point: the present one, those before the Prepares of open
-- branches, and those before the entries that began committed branches with keys above the known one
pub record HoldsPoints (from : RestartPoint) (node : ℕ) (history : List LogEntry) (here : Standings) (trail : Trail) : Type 0 where
  pub place : trail.place ≡ (point_behind from history).place
  pub checksum : trail.checksum ≡ (point_behind from history).checksum
  pub ended : AllByRecursion (λ (e : EndedBranch). e.ended < here.entry) trail.ended
  pub standing : AllByRecursion (λ (s : StandingBranch). from.entry ≤ s.branch.entry → IsStand from history (branches_of here.opened) trail.ended (stand_of s)) here.opened
  pub recent : AllByRecursion (λ (r : RecentBranch). IsStand from history (branches_of here.opened) trail.ended r.stand) trail.recent
  pub told : AllByRecursion
      (λ (b : Begun). from.entry ≤ b.0 → is_gt (key_order b.1.key trail.known) ≡ true → SomeByRecursion (λ (r : RecentBranch). BeganAt r b) trail.recent)
      (begun_branches (start_at from) node history)
  pub began : AllByRecursion (λ (r : RecentBranch). SomeByRecursion (BeganAt r) (begun_branches (start_at from) node history)) trail.recent
