-- What the opening of sources answers where it refuses.
use Rattle.std.specs.Prelude.{◌≡◌, ℕ, ◌-◌, Bool, IsTrue, List, Option, Some, None, ⊤}
use Rattle.cdc_base.specs.declared.place.Place.{Place}
use Rattle.cdc_model.specs.Restart.{RestartPoint}
use Rattle.cdc_records.specs.declared.checkpoint.Checkpoint.{Checkpoint}
use Rattle.cdc_opening.specs.declared.outcome.Outcome.{Outcome}
use Rattle.cdc_opening.specs.declared.outcome.Outcome.TheVariants.{Done, Disk, TaskDisk, Read, Memory, TooLarge, Node, Open, Task, Behind, Differs, Key}
use Rattle.cdc_opening.specs.OpenSources.{end_of_file, EndsBeforePlace, NoneEndsBefore, IsLogBehind}

-- a log ends before its restart point, and these are both places
pub record IsBehindAt (files : List (List ℕ)) (cut : RestartPoint) (kept given : Place) : Type 0 where
  pub behind : EndsBeforePlace files cut
  pub kept_is : kept ≡ cut.place
  pub given_is : given ≡ end_of_file files cut.place.file

-- why the source of a node that is read from its start isn't opened
abbrev pub IsWholeAnswer : ℕ → Outcome → Type 0
IsWholeAnswer number Done = ⊥
IsWholeAnswer number (Disk out) = ⊥
IsWholeAnswer number TaskDisk = ⊥
IsWholeAnswer number (Read node) = node ≡ number
IsWholeAnswer number Memory = ⊥
IsWholeAnswer number (TooLarge of bytes) = ⊥
IsWholeAnswer number (Node node place fault) = ⊥
IsWholeAnswer number (Open out fault) = ⊥
IsWholeAnswer number (Task fault) = ⊥
IsWholeAnswer number (Behind node kept given) = ⊥
IsWholeAnswer number (Differs out kept given) = ⊥
IsWholeAnswer number (Key out kept given) = ⊥

-- why the source of a node that is read from a restart point isn't opened
abbrev pub IsNodeAnswer : Bool → List (List ℕ) → RestartPoint → ℕ → Outcome → Type 0
IsNodeAnswer told files cut number Done = ⊥
IsNodeAnswer told files cut number (Disk out) = ⊥
IsNodeAnswer told files cut number TaskDisk = ⊥
IsNodeAnswer told files cut number (Read node) = node ≡ number
IsNodeAnswer told files cut number Memory = ⊥
IsNodeAnswer told files cut number (TooLarge of bytes) = ⊥
IsNodeAnswer told files cut number (Node node place fault) = ⊥
IsNodeAnswer told files cut number (Open out fault) = ⊥
IsNodeAnswer told files cut number (Task fault) = ⊥
IsNodeAnswer told files cut number (Behind node kept given) = (node ≡ number) × (IsTrue told → IsBehindAt files cut kept given)
IsNodeAnswer told files cut number (Differs out kept given) = ⊥
IsNodeAnswer told files cut number (Key out kept given) = ⊥

-- why sources that are read from restart points aren't opened, the first that isn't
abbrev pub AreNodesAnswer : Bool → List (List (List ℕ)) → List RestartPoint → Outcome → Type 0
AreNodesAnswer told logs cuts Done = ⊥
AreNodesAnswer told logs cuts (Disk out) = ⊥
AreNodesAnswer told logs cuts TaskDisk = ⊥
AreNodesAnswer told logs cuts (Read node) = IsTrue told → NoneEndsBefore (node - 1) logs cuts
AreNodesAnswer told logs cuts Memory = ⊥
AreNodesAnswer told logs cuts (TooLarge of bytes) = ⊥
AreNodesAnswer told logs cuts (Node node place fault) = ⊥
AreNodesAnswer told logs cuts (Open out fault) = ⊥
AreNodesAnswer told logs cuts (Task fault) = ⊥
AreNodesAnswer told logs cuts (Behind node kept given) = IsTrue told → IsLogBehind logs cuts node kept given
AreNodesAnswer told logs cuts (Differs out kept given) = ⊥
AreNodesAnswer told logs cuts (Key out kept given) = ⊥

-- why sources aren't opened that are read from the restart points of this checkpoint, or from their starts
abbrev pub IsSourcesAnswer : Bool → List (List (List ℕ)) → Option Checkpoint → Outcome → Type 0
IsSourcesAnswer told logs None (Done) = ⊥
IsSourcesAnswer told logs None (Disk out) = ⊥
IsSourcesAnswer told logs None TaskDisk = ⊥
IsSourcesAnswer told logs None (Read node) = ⊤
IsSourcesAnswer told logs None Memory = ⊥
IsSourcesAnswer told logs None (TooLarge of bytes) = ⊥
IsSourcesAnswer told logs None (Node node place fault) = ⊥
IsSourcesAnswer told logs None (Open out fault) = ⊥
IsSourcesAnswer told logs None (Task fault) = ⊥
IsSourcesAnswer told logs None (Behind node kept given) = ⊥
IsSourcesAnswer told logs None (Differs out kept given) = ⊥
IsSourcesAnswer told logs None (Key out kept given) = ⊥
IsSourcesAnswer told logs (Some point) outcome = AreNodesAnswer told logs point.nodes outcome
