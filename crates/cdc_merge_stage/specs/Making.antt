-- What is made of what nodes give: units, one behind another.
use Rattle.std.specs.Prelude.{◌≡◌, ℕ, ◌+◌, ◌^◌, ◌≤◌, ◌<◌, List, [], ◌∷◌, ◌++◌, length}
use Rattle.std.specs.List.{AllByRecursion}
use Rattle.cdc_base.specs.declared.rename.Rename.{Rename}
use Rattle.cdc_model.specs.declared.layout.Layout.{Layout}
use Rattle.cdc_model.specs.Records.{Transaction, OutputUnit}
use Rattle.cdc_model.specs.Print.{printed_length}
use Rattle.cdc_model.specs.SettledOrder.{IsFront}
use Rattle.cdc_model.specs.Feed.{NodeFeed, fed_branches, least_bound, merged_transactions}
use Rattle.cdc_model.specs.Unit.{unit_of}
use Rattle.cdc_model.specs.Layout.{IsRotation, HasRoom}
use Rattle.cdc_merger.specs.Merging.{Merging, Merges, last_key, told_bound}
use Rattle.cdc_merge_stage.specs.declared.start.MergeStart.{MergeStart}
use Rattle.cdc_merge_stage.specs.declared.maker.Made.{Made}
use Rattle.cdc_merge_stage.specs.declared.maker.Made.TheVariants.{Unit as OneUnit, Nothing, TooLarge, Memory}

-- a merger; how transactions are printed and cut into files; where the outputs stand behind the last unit; how many more
-- transactions the branches that were given can make; and how many more branches it can be given
pub record MakerState : Type 0 where
  pub merger : Merging
  pub rules : List Rename
  pub rotation : ℕ
  pub before : Layout
  pub credit : ℕ
  pub room : ℕ

-- where an output stands behind more transactions
abbrev pub layout_behind : List Rename → ℕ → Layout → List Transaction → Layout
layout_behind rules rotation before [] = before
layout_behind rules rotation before (txn ∷ txns) = layout_behind rules rotation (unit_of rules rotation txn before).after txns

-- the units of transactions, each behind the one before it
abbrev pub units_behind : List Rename → ℕ → Layout → List Transaction → List OutputUnit
units_behind rules rotation before [] = []
units_behind rules rotation before (txn ∷ txns) = unit_of rules rotation txn before ∷ units_behind rules rotation (unit_of rules rotation txn before).after txns

-- where merging begins behind more transactions
abbrev pub start_behind : List Rename → ℕ → MergeStart → List Transaction → MergeStart
start_behind rules rotation start txns = record {
  count = start.count + length txns;
  last = last_key start.last txns;
  before = layout_behind rules rotation start.before txns;
}

-- where merging begins behind a unit
abbrev pub unit_behind : OutputUnit → MergeStart
unit_behind unit = record { count = unit.number; last = unit.key; before = unit.after }

-- a print of at most 2^28 bytes
abbrev pub PrintFits : List Rename → Transaction → Type 0
PrintFits rules txn = printed_length rules txn ≤ 2 ^ 28

-- these transactions were made into units, of what the nodes gave and told
pub record Makes (maker : MakerState) (start : MergeStart) (feeds : List NodeFeed) (gave : List Transaction) : Type 0 where
  pub merges : Merges maker.merger start.count start.last feeds gave
  pub stands : maker.before ≡ layout_behind maker.rules maker.rotation start.before gave
  pub fits : AllByRecursion (PrintFits maker.rules) gave
  pub counted : maker.credit + length gave ≡ length (fed_branches feeds)
  pub few : 0 < length (fed_branches feeds) + maker.room → start.count + length (fed_branches feeds) + maker.room ≤ 2 ^ 62

-- a node's bound isn't lower than the least one before
abbrev pub IsHigher : ℕ → ℕ → List NodeFeed → Type 0
IsHigher node bound feeds = least_bound feeds ≤ least_bound (told_bound node bound feeds)

-- the next transaction's print is too large: what was given, and it, are a front of all that is merged
pub record IsTooLarge (rules : List Rename) (start : MergeStart) (feeds : List NodeFeed) (gave : List Transaction) (number bytes : ℕ) : Type 0 where
  pub txn : Transaction
  pub front : IsFront (gave ++ txn ∷ []) (merged_transactions start.count feeds)
  pub is_number : number ≡ txn.number
  pub large : 2 ^ 28 < printed_length rules txn
  pub is_length : printed_length rules txn < 2 ^ 64 → bytes ≡ printed_length rules txn

-- what became of a transaction: its unit, or a print that is too large
abbrev pub IsUnitMade : MakerState → MakerState → Transaction → Made → Type 0
IsUnitMade old new txn (OneUnit unit) =
    (unit ≡ unit_of old.rules old.rotation txn old.before) × (new.before ≡ unit.after) × (new.credit + 1 ≡ old.credit) × PrintFits old.rules txn
IsUnitMade old new txn Nothing = ⊥
IsUnitMade old new txn (TooLarge number bytes) =
    (number ≡ txn.number) × (2 ^ 28 < printed_length old.rules txn) × (printed_length old.rules txn < 2 ^ 64 → bytes ≡ printed_length old.rules txn)
    × (new.before ≡ old.before) × (new.credit ≡ old.credit)
IsUnitMade old new txn Memory = (new.before ≡ old.before) × (new.credit ≡ old.credit)

-- what comes next: one transaction more as a unit; or all that the bounds settle was given; or the next is too large
abbrev pub MakesNext : MakerState → MakerState → MergeStart → List NodeFeed → List Transaction → Made → Type 0
MakesNext old new start feeds gave (OneUnit unit) =
    (txn : Transaction) × (unit ≡ unit_of old.rules old.rotation txn old.before) × Makes new start feeds (gave ++ txn ∷ [])
MakesNext old new start feeds gave Nothing = (gave ≡ merged_transactions start.count feeds) × Makes new start feeds gave
MakesNext old new start feeds gave (TooLarge number bytes) = IsTooLarge old.rules start feeds gave number bytes
MakesNext old new start feeds gave Memory = IsFront gave (merged_transactions start.count feeds)

-- each unit uses up one of the branches
abbrev pub FallsBy : ℕ → ℕ → Made → Type 0
FallsBy old new (OneUnit unit) = new + 1 ≤ old
FallsBy old new Nothing = new ≤ old
FallsBy old new (TooLarge number bytes) = new ≤ old
FallsBy old new Memory = new ≤ old

-- the rotation size is one, and there is room for a transaction behind what was made
pub record CanPrint (rotation : ℕ) (before : Layout) : Type 0 where
  pub sized : IsRotation rotation
  pub room : HasRoom before
