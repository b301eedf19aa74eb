-- A pass at its beginning: its jobs stand at restart points of their logs.
use Rattle.std.specs.Prelude.{◌≡◌, ℕ, ◌+◌, IsTrue, List, [], ◌∷◌, map, take}
use Rattle.std.specs.List.{AllZip}
use Rattle.cdc_base.specs.declared.key.Key.{Key}
use Rattle.cdc_model.specs.declared.node_log.NodeLog.{NodeLog}
use Rattle.cdc_model.specs.Output.{layout_of}
use Rattle.cdc_model.specs.Restart.{RestartPoint}
use Rattle.cdc_model.specs.Growth.{IsReadWhole}
use Rattle.cdc_recovery.specs.Outputs.{OutputPlan, planned_transactions}
use Rattle.cdc_content.specs.Reading.{GoesOnBehind}
use Rattle.cdc_node_stage.specs.Sending.{node_state}
use Rattle.cdc_node_stage.specs.Preparing.{BeginsAs}
use Rattle.cdc_node_stage.specs.Job.{SourceWords, SourcedStage, node_account}
use Rattle.cdc_merge_stage.specs.Merged.{MergeState, merge_account}
use Rattle.cdc_windows.specs.Windows.{HaveRun}
use Rattle.cdc_windows.specs.Sourced.{node_rereading}

-- the stages of nodes begin at these points, for branches with keys above a last one, in windows of some size; the first node has
-- this number
abbrev pub AllBegin : {S : Type 0} → ℕ → Key → List RestartPoint → List (SourcedStage S) → Type 0
AllBegin node last [] [] = Unit {0}
AllBegin node last [] (job ∷ jobs) = ⊥
AllBegin node last (point ∷ points) [] = ⊥
AllBegin node last (point ∷ points) (job ∷ jobs) =
    ((window : ℕ) × BeginsAs (node_state job.stage) (record { last = last; from = point; node = node }) window) × AllBegin (node + 1) last points jobs

-- the bytes of the sources of jobs
abbrev pub files_of_jobs : {S : Type 0} → SourceWords S → List (SourcedStage S) → List (List (List ℕ))
files_of_jobs {S} w jobs = map (λ (job : SourcedStage S). w.held job.source) jobs

-- a pass over these logs begins behind some of their planned transactions: its nodes' jobs at restart points for the key of the
-- last of them, its merge stage where an output of them stands
pub record IsPassBegun {S : Type 0} (w : SourceWords S) (plan : OutputPlan) (logs : List NodeLog) (points : List RestartPoint) (nodes : List (SourcedStage S)) (merge : MergeState) : Type 0 where
  pub tells : IsTrue w.tells
  pub whole : AllZip IsReadWhole (files_of_jobs w nodes) logs
  pub behind : GoesOnBehind plan logs merge.start.count merge.start.last points
  pub layout : merge.start.before ≡ layout_of plan.rules plan.rotation (take merge.start.count (planned_transactions plan logs))
  pub begin : AllBegin 1 merge.start.last points nodes
  pub rules : merge.maker.rules ≡ plan.rules
  pub rotation : merge.maker.rotation ≡ plan.rotation

-- its jobs have run to the end of a window
abbrev pub HasPassRun : {S : Type 0} → SourceWords S → List (SourcedStage S) → MergeState → List (SourcedStage S) → MergeState → Type 0
HasPassRun w nodes merge laters later = HaveRun (node_account w) merge_account (node_rereading w) nodes merge laters later
