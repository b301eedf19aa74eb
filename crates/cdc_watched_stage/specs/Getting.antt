-- What a watch does with the units that it is given.
use Rattle.std.specs.Prelude.{◌≡◌, ◌⊎◌, Bool, true, false, List, [], ◌∷◌, ◌++◌}
use Rattle.cdc_model.specs.Records.{OutputUnit}

-- a watch was given a unit: it keeps it, or ends without it; one that has ended keeps no more
abbrev pub Gets : List OutputUnit → Bool → OutputUnit → List OutputUnit → Bool → Type 0
Gets kept false unit later later_ended = ((later ≡ kept ++ unit ∷ []) × (later_ended ≡ false)) ⊎ ((later ≡ kept) × (later_ended ≡ true))
Gets kept true unit later later_ended = (later ≡ kept) × (later_ended ≡ true)

-- a watch was given units one after another: it keeps the first of them, all where it hasn't ended; and it has ended where
-- it had before, or where it kept not all
pub record HasGot (kept : List OutputUnit) (ended : Bool) (units later : List OutputUnit) (later_ended : Bool) : Type 0 where
  pub got : List OutputUnit
  pub left : List OutputUnit
  pub split : units ≡ got ++ left
  pub keeps : later ≡ kept ++ got
  pub all : later_ended ≡ false → (ended ≡ false) × (left ≡ [])
  pub none : ended ≡ true → got ≡ []
  pub why : later_ended ≡ true → (ended ≡ true) ⊎ (left ≡ [] → ⊥)
