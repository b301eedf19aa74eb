-- Where the one file ends: before the first print that it has no room for.
use Rattle.std.specs.Prelude.{◌≡◌, ◌<◌, ◌≤◌, ℕ, ◌+◌, List, [], ◌∷◌, ◌++◌, length, MatchOption}
use Rattle.cdc_model.specs.Records.{Transaction}
use Rattle.cdc_model.specs.Print.{printed_length}
use Rattle.cdc_model.specs.Output.{prints_at, last_place, prints_within, first_beyond}

-- all prints fit, and are those of the one file
pub record HasAll (at : ℕ) (txns : List Transaction) : Type 0 where
  pub fits : at + length (prints_at [] at txns) ≤ last_place
  pub prints : prints_within at txns ≡ prints_at [] at txns

-- the first transaction whose print would pass the last place: the prints before it fit, and are those of the one file
pub record EndsBefore (at : ℕ) (txns : List Transaction) (txn : Transaction) : Type 0 where
  pub front : List Transaction
  pub behind : List Transaction
  pub in_order : txns ≡ front ++ txn ∷ behind
  pub fits : at + length (prints_at [] at front) ≤ last_place
  pub passes : last_place < at + length (prints_at [] at front) + printed_length [] txn
  pub prints : prints_within at txns ≡ prints_at [] at front

-- law: the one file has all prints where all fit, else those before the first that doesn't
abbrev pub OneFileEnds : Type 0
OneFileEnds = (at : ℕ) (txns : List Transaction) → at ≤ last_place
    → MatchOption (first_beyond at txns) (HasAll at txns) (EndsBefore at txns)
