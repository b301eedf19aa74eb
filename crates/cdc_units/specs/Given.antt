-- What a pass has read and given.
use Rattle.std.specs.Prelude.{◌≡◌, ◌≤◌, ℕ, List, length, take, Some}
use Rattle.std.specs.List.{AllByRecursion}
use Rattle.cdc_model.specs.declared.node_log.NodeLog.{NodeLog}
use Rattle.cdc_model.specs.Records.{LogEntry}
use Rattle.cdc_model.specs.Output.{layout_of}
use Rattle.cdc_model.specs.Transaction.{key_at}
use Rattle.cdc_model.specs.Restart.{RestartPoint}
use Rattle.cdc_records.specs.declared.checkpoint.Checkpoint.{Checkpoint}
use Rattle.cdc_recovery.specs.Outputs.{OutputPlan, planned_transactions}
use Rattle.cdc_content.specs.Laws.{PassReads}
use Rattle.cdc_item.specs.declared.node_item.NodeItem.{NodeItem}
use Rattle.cdc_item.specs.declared.dump_item.DumpItem.{DumpItem}
use Rattle.cdc_dump_stage.specs.Standing.{AreUnits}
use Rattle.cdc_merge_stage.specs.declared.start.MergeStart.{MergeStart}
use Rattle.cdc_merge_stage.specs.Merged.{MergeState, MergeDid, AreKept, feeds_of}

-- what was taken of nodes that were read so, and given to the outputs, in so many windows of a pass that goes on behind planned
-- transactions
pub record PassGave (plan : OutputPlan) (nodes : List (List (List ℕ))) (logs : List NodeLog) (restart : List RestartPoint) (takens : List (List LogEntry)) (window : ℕ) (s : MergeState) (takes : List (List NodeItem)) (gives : List (List DumpItem)) : Type 0 where
  pub rules : s.maker.rules ≡ plan.rules
  pub rotation : s.maker.rotation ≡ plan.rotation
  pub before : s.start.before ≡ layout_of plan.rules plan.rotation (take s.start.count (planned_transactions plan logs))
  pub reads : PassReads plan nodes logs s.start.count s.start.last restart takens (feeds_of takes)
  pub kept : AreKept s.start takes
  pub did : MergeDid window s takes gives

-- so many planned transactions, the last one's key, and where an output of them stands
pub record IsBehindPlanned (plan : OutputPlan) (logs : List NodeLog) (behind : MergeStart) : Type 0 where
  pub within : behind.count ≤ length (planned_transactions plan logs)
  pub last : behind.last ≡ key_at (planned_transactions plan logs) behind.count
  pub before : behind.before ≡ layout_of plan.rules plan.rotation (take behind.count (planned_transactions plan logs))

-- each output has got units of the planned transactions behind so many
abbrev pub HaveGotUnits : OutputPlan → List NodeLog → ℕ → List (List DumpItem) → Type 0
HaveGotUnits plan logs count gives = AllByRecursion (λ (items : List DumpItem). AreUnits plan (planned_transactions plan logs) count items) gives

-- the checkpoint of where a merge stage stands, with these points
abbrev pub point_at : ℕ → MergeStart → List RestartPoint → Checkpoint
point_at rotation behind points = record { count = behind.count; layout = behind.before; last = behind.last; rotation = Some rotation; nodes = points }
