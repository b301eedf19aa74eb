-- What the outputs got, as the settled transactions of all logs.
use Rattle.std.specs.Prelude.{◌≡◌, ℕ, ◌<◌, ◌^◌, List, ◌++◌, length, take, slice_get, Option, Some, None}
use Rattle.cdc_base.specs.declared.rename.Rename.{Rename}
use Rattle.cdc_model.specs.declared.node_log.NodeLog.{NodeLog}
use Rattle.cdc_model.specs.Records.{Transaction}
use Rattle.cdc_model.specs.Print.{printed_length}
use Rattle.cdc_model.specs.Unit.{unit_of}
use Rattle.cdc_model.specs.Output.{layout_of}
use Rattle.cdc_model.specs.Transaction.{settled_transactions, oversized_transaction}
use Rattle.cdc_model.specs.SettledOrder.{IsFront}
use Rattle.cdc_model.specs.Feed.{NodeFeed, AreFeedsOf, AreToldOf}
use Rattle.cdc_item.specs.declared.dump_item.DumpItem.{DumpItem}
use Rattle.cdc_merge_stage.specs.declared.merge_end.MergeEnd.TheVariants.{Whole, TooLarge}
use Rattle.cdc_merge_stage.specs.Making.{layout_behind, units_behind}
use Rattle.cdc_merge_stage.specs.Merged.{MergeState, HasGivenUnits}

-- the settled transactions of all logs behind the stage's start, under its rules
abbrev pub settled_of_logs : MergeState → List NodeLog → List Transaction
settled_of_logs s logs = settled_transactions s.maker.rules s.start.count s.start.last logs

-- the first transaction behind the stage's start whose print is too large, where there is one
abbrev pub oversized_of_logs : MergeState → List NodeLog → Option Transaction
oversized_of_logs s logs = oversized_transaction s.maker.rules s.start.count s.start.last logs

-- all settled transactions were given, up to one that is too large, which is told by its number and length
pub record StopsAtOversized (s : MergeState) (logs : List NodeLog) (gave : List Transaction) (number bytes : ℕ) : Type 0 where
  pub all : gave ≡ settled_of_logs s logs
  pub txn : Transaction
  pub is_first : oversized_of_logs s logs ≡ Some txn
  pub is_number : number ≡ txn.number
  pub is_length : printed_length s.maker.rules txn < 2 ^ 64 → bytes ≡ printed_length s.maker.rules txn

-- what was given of feeds of these logs are the first settled transactions; where the stage is whole and each node has told its
-- low-water mark, all of them, and none is too large
pub record GivesSettled (s : MergeState) (logs : List NodeLog) (feeds : List NodeFeed) (gave : List Transaction) : Type 0 where
  pub first : IsFront gave (settled_of_logs s logs)
  pub whole : s.end ≡ Whole → AreToldOf logs feeds → (gave ≡ settled_of_logs s logs) × (oversized_of_logs s logs ≡ None)
  pub too_large : (number bytes : ℕ) → s.end ≡ TooLarge number bytes → StopsAtOversized s logs gave number bytes

-- law: what a stage gives of what the nodes give of their logs are settled transactions
abbrev pub UnitsAreSettled : Type 0
UnitsAreSettled = (s : MergeState) (logs : List NodeLog) (feeds : List NodeFeed) (gives : List (List DumpItem)) → AreFeedsOf s.start.last logs feeds → (has : HasGivenUnits s feeds gives) → GivesSettled s logs feeds has.gave

-- behind where an output of the first transactions stands, the units of more are one by one its steps with them, and the layout
-- behind these units is that of all
pub record ContinuesOutput (rules : List Rename) (rotation : ℕ) (first more : List Transaction) : Type 0 where
  pub units : (index : ℕ) (txn : Transaction) → slice_get more index ≡ Some txn
      → slice_get (units_behind rules rotation (layout_of rules rotation first) more) index ≡ Some (unit_of rules rotation txn (layout_of rules rotation (first ++ take index more)))
  pub many : length (units_behind rules rotation (layout_of rules rotation first) more) ≡ length more
  pub layout : layout_behind rules rotation (layout_of rules rotation first) more ≡ layout_of rules rotation (first ++ more)

-- law: the units of a stage that begins where an output of the first transactions stands go on with that output
abbrev pub UnitsContinueOutputs : Type 0
UnitsContinueOutputs = (rules : List Rename) (rotation : ℕ) (first more : List Transaction) → ContinuesOutput rules rotation first more
