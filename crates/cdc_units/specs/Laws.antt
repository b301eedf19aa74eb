-- The laws of a pass's units.
use Rattle.std.specs.Prelude.{◌≡◌, ◌<◌, ◌^◌, ℕ, List, length, Some, None}
use Rattle.cdc_base.specs.Key.{first_key}
use Rattle.cdc_model.specs.declared.node_log.NodeLog.{NodeLog}
use Rattle.cdc_model.specs.Records.{LogEntry, Transaction}
use Rattle.cdc_model.specs.Print.{printed_length}
use Rattle.cdc_model.specs.Transaction.{oversized_transaction}
use Rattle.cdc_model.specs.Restart.{RestartPoint}
use Rattle.cdc_recovery.specs.Outputs.{OutputPlan, planned_transactions}
use Rattle.cdc_recovery.specs.Checkpoints.{IsSoundCheckpoint, IsLastCheckpoint}
use Rattle.cdc_content.specs.Reading.{HaveReadAll, AreLatestOfRead}
use Rattle.cdc_item.specs.declared.node_item.NodeItem.{NodeItem}
use Rattle.cdc_item.specs.declared.dump_item.DumpItem.{DumpItem}
use Rattle.cdc_merge_stage.specs.declared.merge_end.MergeEnd.TheVariants.{Whole, TooLarge}
use Rattle.cdc_merge_stage.specs.Merged.{MergeState, feeds_of}
use Rattle.cdc_units.specs.Given.{PassGave, IsBehindPlanned, HaveGotUnits, point_at}

-- the outputs have got units of the next planned transactions, and the stage stands behind those that it made
pub record GivesPlannedUnits (plan : OutputPlan) (logs : List NodeLog) (s : MergeState) (gives : List (List DumpItem)) : Type 0 where
  pub stands : IsBehindPlanned plan logs s.behind
  pub units : HaveGotUnits plan logs s.start.count gives

-- law: whatever was read and given
abbrev pub PassGivesPlannedUnits : Type 0
PassGivesPlannedUnits = (plan : OutputPlan) (nodes : List (List (List ℕ))) (logs : List NodeLog) (points : List RestartPoint) (takens : List (List LogEntry)) (window : ℕ) (s : MergeState) (takes : List (List NodeItem)) (gives : List (List DumpItem))
    → PassGave plan nodes logs points takens window s takes gives → GivesPlannedUnits plan logs s gives

-- law: where all was read and the stage is whole, all was made, and no print is too large
abbrev pub AllReadGivesAll : Type 0
AllReadGivesAll = (plan : OutputPlan) (nodes : List (List (List ℕ))) (logs : List NodeLog) (points : List RestartPoint) (takens : List (List LogEntry)) (window : ℕ) (s : MergeState) (takes : List (List NodeItem)) (gives : List (List DumpItem))
    → PassGave plan nodes logs points takens window s takes gives → HaveReadAll nodes points takens (feeds_of takes) → s.end ≡ Whole
    → (s.behind.count ≡ length (planned_transactions plan logs)) × (oversized_transaction plan.rules 0 first_key logs ≡ None)

-- a stage that met a print that is too large stands behind all planned transactions, and has told the one that ends them
pub record EndsAtOversized (plan : OutputPlan) (logs : List NodeLog) (s : MergeState) (number bytes : ℕ) : Type 0 where
  pub all : s.behind.count ≡ length (planned_transactions plan logs)
  pub txn : Transaction
  pub oversized : oversized_transaction plan.rules 0 first_key logs ≡ Some txn
  pub is_number : number ≡ txn.number
  pub is_length : printed_length plan.rules txn < 2 ^ 64 → bytes ≡ printed_length plan.rules txn

-- law: so it is wherever a stage met one
abbrev pub TooLargeEndsThePass : Type 0
TooLargeEndsThePass = (plan : OutputPlan) (nodes : List (List (List ℕ))) (logs : List NodeLog) (points : List RestartPoint) (takens : List (List LogEntry)) (window : ℕ) (s : MergeState) (takes : List (List NodeItem)) (gives : List (List DumpItem)) (number bytes : ℕ)
    → PassGave plan nodes logs points takens window s takes gives → s.end ≡ TooLarge number bytes → EndsAtOversized plan logs s number bytes

-- law: the checkpoint of where the stage stands, with the latest restart points of what was read, is sound
abbrev pub PassPointsAreSound : Type 0
PassPointsAreSound = (plan : OutputPlan) (nodes : List (List (List ℕ))) (logs : List NodeLog) (points : List RestartPoint) (takens : List (List LogEntry)) (window : ℕ) (s : MergeState) (takes : List (List NodeItem)) (gives : List (List DumpItem)) (laters : List RestartPoint)
    → PassGave plan nodes logs points takens window s takes gives → AreLatestOfRead 1 s.behind.last points takens laters
    → IsSoundCheckpoint plan logs (point_at plan.rotation s.behind laters)

-- law: where all was read, and the stage stands behind all planned transactions, it is the last one
abbrev pub PassPointIsTheLast : Type 0
PassPointIsTheLast = (plan : OutputPlan) (nodes : List (List (List ℕ))) (logs : List NodeLog) (points : List RestartPoint) (takens : List (List LogEntry)) (window : ℕ) (s : MergeState) (takes : List (List NodeItem)) (gives : List (List DumpItem)) (laters : List RestartPoint)
    → PassGave plan nodes logs points takens window s takes gives → HaveReadAll nodes points takens (feeds_of takes)
    → s.behind.count ≡ length (planned_transactions plan logs) → AreLatestOfRead 1 s.behind.last points takens laters
    → IsLastCheckpoint plan logs (point_at plan.rotation s.behind laters)
