-- Laws about the events of a published file.
use Rattle.std.specs.Prelude.{◌≡◌, ℕ, ◌≤◌, true, List, length}
use Rattle.std.specs.List.{AllByRecursion, concat}
use Rattle.cdc_index.specs.Chain.{told_length, is_chain, chained_events}

-- bytes that are one whole event by the length in their header
pub record IsSized (event : List ℕ) : Type 0 where
  pub header : 19 ≤ length event
  pub told : told_length event ≡ length event

-- law: a chain is its events one behind another, each as long as it says; and events of which each is as long as it says
-- are, one behind another, a chain, and are read as they are
pub record ChainIsExact : Type 0 where
  pub whole : (bytes : List ℕ) → is_chain bytes ≡ true → AllByRecursion IsSized (chained_events bytes) × (bytes ≡ concat (chained_events bytes))
  pub read : (events : List (List ℕ)) → AllByRecursion IsSized events → (is_chain (concat events) ≡ true) × (chained_events (concat events) ≡ events)
