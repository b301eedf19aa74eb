-- The laws of a pass's readings.
use Rattle.std.specs.Prelude.{◌≡◌, ℕ, List, length, None}
use Rattle.std.specs.List.{AllZip}
use Rattle.cdc_base.specs.Key.{first_key}
use Rattle.cdc_model.specs.declared.node_log.NodeLog.{NodeLog}
use Rattle.cdc_model.specs.Restart.{RestartPoint}
use Rattle.cdc_model.specs.Transaction.{oversized_transaction}
use Rattle.cdc_recovery.specs.Outputs.{OutputPlan, planned_transactions}
use Rattle.cdc_node_stage.specs.Job.{SourceWords, SourcedStage, node_account}
use Rattle.cdc_merge_stage.specs.declared.merge_end.MergeEnd.TheVariants.{Whole, TooLarge}
use Rattle.cdc_merge_stage.specs.Merged.{MergeState, merge_account}
use Rattle.cdc_recovery.specs.Checkpoints.{IsLastCheckpoint}
use Rattle.cdc_units.specs.Given.{point_at}
use Rattle.cdc_units.specs.Laws.{EndsAtOversized}
use Rattle.cdc_windows.specs.Rereading.{AreOver}
use Rattle.cdc_windows.specs.Windows.{ReadLogs}
use Rattle.cdc_windows.specs.Sourced.{node_rereading, reached_by, MayRestartAt}
use Rattle.cdc_reads.specs.Begun.{IsPassBegun, HasPassRun}
use Rattle.cdc_reads.specs.Ended.{AreReadThrough, HaveAllEnded}

-- law: jobs that begin a pass over logs read these logs
abbrev pub JobsReadLogs : {S : Type 0} → SourceWords S → Type 0
JobsReadLogs {S} w = (plan : OutputPlan) (logs : List NodeLog) (points : List RestartPoint) (nodes : List (SourcedStage S)) (merge : MergeState)
    → IsPassBegun w plan logs points nodes merge
    → ReadLogs (node_account w) merge_account (node_rereading w) reached_by plan logs merge.start.count nodes merge

-- law: where all was read and the merge stage is whole, it came to all planned transactions, and no print is too large
abbrev pub AllWindowsGiveAll : {S : Type 0} → SourceWords S → Type 0
AllWindowsGiveAll {S} w = (plan : OutputPlan) (logs : List NodeLog) (points : List RestartPoint) (nodes : List (SourcedStage S)) (merge : MergeState) (laters : List (SourcedStage S)) (later : MergeState)
    → IsPassBegun w plan logs points nodes merge → HasPassRun w nodes merge laters later → AreReadThrough laters → later.end ≡ Whole
    → (later.behind.count ≡ length (planned_transactions plan logs)) × (oversized_transaction plan.rules 0 first_key logs ≡ None)

-- law: where the merge stage met a print that is too large, it came to all planned transactions, and told the one that ends them
abbrev pub TooLargeIsOversized : {S : Type 0} → SourceWords S → Type 0
TooLargeIsOversized {S} w = (plan : OutputPlan) (logs : List NodeLog) (points : List RestartPoint) (nodes : List (SourcedStage S)) (merge : MergeState) (laters : List (SourcedStage S)) (later : MergeState) (number bytes : ℕ)
    → IsPassBegun w plan logs points nodes merge → HasPassRun w nodes merge laters later → later.end ≡ TooLarge number bytes
    → EndsAtOversized plan logs later number bytes

-- law: where all readings are over, each ended as its log or its source says
abbrev pub EndsAreFaults : {S : Type 0} → SourceWords S → Type 0
EndsAreFaults {S} w = (plan : OutputPlan) (logs : List NodeLog) (points : List RestartPoint) (nodes : List (SourcedStage S)) (merge : MergeState) (laters : List (SourcedStage S)) (later : MergeState)
    → IsPassBegun w plan logs points nodes merge → HasPassRun w nodes merge laters later → AreOver (node_rereading w) laters
    → HaveAllEnded w nodes laters

-- law: where all was read and the merge stage is whole, the checkpoint of where it stands, with points from which the nodes may be
-- read again, is the last one
abbrev pub LastWindowsPointIsTheLast : {S : Type 0} → SourceWords S → Type 0
LastWindowsPointIsTheLast {S} w = (plan : OutputPlan) (logs : List NodeLog) (points : List RestartPoint) (nodes : List (SourcedStage S)) (merge : MergeState) (laters : List (SourcedStage S)) (later : MergeState) (cuts : List RestartPoint)
    → IsPassBegun w plan logs points nodes merge → HasPassRun w nodes merge laters later → AreReadThrough laters → later.end ≡ Whole
    → AllZip (λ job cut. MayRestartAt w job later.behind.last cut) laters cuts
    → IsLastCheckpoint plan logs (point_at plan.rotation later.behind cuts)
