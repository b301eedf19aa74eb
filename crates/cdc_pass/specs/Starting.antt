-- A pass before its first window.
use Rattle.std.specs.Prelude.{◌≡◌, ◌<◌, ◌≤◌, ◌⊎◌, ℕ, ◌+◌, true, false, Bool, IsTrue, List, [], ◌∷◌, ◌++◌, map, Option}
use Rattle.std.specs.List.{AllByRecursion}
use Rattle.cdc_base.specs.declared.key.Key.{Key}
use Rattle.cdc_config.specs.declared.plan.Plan.{Plan}
use Rattle.cdc_outside.specs.Disk.{Image}
use Rattle.cdc_model.specs.declared.node_log.NodeLog.{NodeLog}
use Rattle.cdc_model.specs.Restart.{RestartPoint}
use Rattle.cdc_model.specs.Transaction.{key_at}
use Rattle.cdc_records.specs.declared.front.Front.{Front}
use Rattle.cdc_recovery.specs.Outputs.{OutputPlan, planned_transactions, KeepsFrom}
use Rattle.cdc_recovery.specs.Growing.{Each}
use Rattle.cdc_dumper.specs.Opening.{IsFound, AreEmptyBehind}
use Rattle.cdc_dumper.specs.State.{DumperState}
use Rattle.cdc_dump_stage.specs.Disks.{DiskWords}
use Rattle.cdc_merge_stage.specs.Merged.{MergeState, merges_on, merge_account}
use Rattle.cdc_node_stage.specs.declared.stage.NodeStage.{NodeStage}
use Rattle.cdc_node_stage.specs.Sending.{node_state, IsNodeStanding, HasSent}
use Rattle.cdc_node_stage.specs.Preparing.{BeginsAs}
use Rattle.cdc_node_stage.specs.Job.{SourceWords, SourcedStage, node_account}
use Rattle.cdc_opening.specs.declared.outcome.Outcome.{Outcome}
use Rattle.cdc_opening.specs.declared.outcome.Outcome.TheVariants.{Memory}
use Rattle.cdc_opening.specs.Lists.{AllThree}
use Rattle.cdc_opening.specs.OpenOuts.{IsOutOpened}
use Rattle.cdc_opening.specs.Outcomes.{place_of_outcome}
use Rattle.cdc_reads.specs.Begun.{HasPassRun}
use Rattle.cdc_windows.specs.declared.pass.Passed.{Passed}
use Rattle.cdc_windows.specs.Causes.{IsFirstPassCause, IsCausedBy}
use Rattle.cdc_windows.specs.Jobs.{StartsSoundly}
use Rattle.cdc_windows.specs.Passes.{PassKeeps}
use Rattle.cdc_windows.specs.Rereading.{AreOver, RememberFrom}
use Rattle.cdc_windows.specs.Sourced.{node_rereading, reached_by}
use Rattle.cdc_windows.specs.Windows.{ReadLogs, IsLastKept}
use Rattle.cdc_headline.specs.Ending.{causes_of_nodes, cause_of_merge}

-- how a plan prints transactions and cuts them into files
abbrev pub output_plan : Plan → OutputPlan
output_plan plan = record { rules = plan.names; rotation = plan.rotation }

-- stages begin at these points, for branches with keys above a last one; the first node has this number
abbrev pub StagesBegin : ℕ → Key → List RestartPoint → List NodeStage → Type 0
StagesBegin node last [] [] = Unit {0}
StagesBegin node last [] (stage ∷ stages) = ⊥
StagesBegin node last (point ∷ points) [] = ⊥
StagesBegin node last (point ∷ points) (stage ∷ stages) =
    ((window : ℕ) × BeginsAs (node_state stage) (record { last = last; from = point; node = node }) window) × StagesBegin (node + 1) last points stages

-- a stage at its beginning can read any log, for branches with keys above this one
pub record BeginsBehind (last : Key) (stage : NodeStage) : Type 0 where
  pub stands : (tells : Bool) (files : List (List ℕ)) → IsNodeStanding tells files (node_state stage)
  pub known : stage.reader.sorter.trail.known ≡ last

-- the stages of jobs
abbrev pub stages_of : {S : Type 0} → List (SourcedStage S) → List NodeStage
stages_of {S} jobs = map (λ (job : SourcedStage S). job.stage) jobs

-- a node's job at its beginning: in the first window nothing was sent
abbrev pub HasSentNothing : {S : Type 0} → Bool → (S → List (List ℕ)) → SourcedStage S → Type 0
HasSentNothing tells held job = HasSent tells (held job.source) (node_state job.stage) 1 []

-- a pass did nothing, for want of memory
pub record DidNothing {S D : Type 0} (nodes nodes_now : List S) (outs outs_now : List D) (task task_now : D) (outcome : Outcome) : Type 0 where
  pub nodes_same : nodes_now ≡ nodes
  pub outs_same : outs_now ≡ outs
  pub task_same : task_now ≡ task
  pub wanting : outcome ≡ Memory

-- jobs were run in windows, or nothing was done for want of memory: what they did and kept, and the first of the causes
pub record HaveJobsRun {S D : Type 0} (s : SourceWords S) (w : DiskWords D) (rotation : ℕ) (dumpers : List DumperState) (behind : Option (ℕ × Key)) (jobs : List (SourcedStage S)) (merge : MergeState) (laters : List (SourcedStage S)) (later : MergeState) (outs outs_now : List D) (task task_now : D) (outcome : Outcome) : Type 0 where
  pub passed : Passed
  pub ran : HasPassRun s jobs merge laters later
  pub over : 10 < place_of_outcome passed.cause → AreOver (node_rereading s) laters
  pub whole : 11 < place_of_outcome passed.cause → passed.whole ≡ true
  pub merged : merges_on later.end ≡ false
  pub keeps : IsTrue w.tells → (plan : OutputPlan) (logs : List NodeLog) (from : ℕ) (olds : List D) → plan.rotation ≡ rotation
      → ReadLogs (node_account s) merge_account (node_rereading s) reached_by plan logs from jobs merge
      → AllThree (IsOutOpened w.tells w.seen w.synced w.pending) olds dumpers outs
      → AllByRecursion (λ (disk : D). Each (w.may_leave disk) (KeepsFrom plan (planned_transactions plan logs) 0)) olds
      → StartsSoundly (planned_transactions plan logs) behind
      → AllByRecursion (λ (dumper : DumperState). from ≤ dumper.published.count) dumpers
      → PassKeeps w plan logs later.behind.count passed outs outs_now task task_now
  pub last : IsTrue w.tells → (plan : OutputPlan) (logs : List NodeLog) (from : ℕ) → ReadLogs (node_account s) merge_account (node_rereading s) reached_by plan logs from jobs merge
      → RememberFrom (node_rereading s) (key_at (planned_transactions plan logs) from) jobs → 11 < place_of_outcome passed.cause
      → IsLastKept w (node_rereading s) rotation laters (reached_by later) task_now
  pub caused : IsCausedBy w.faults outs outs_now task task_now passed.cause
  pub first : IsFirstPassCause (passed.cause ∷ causes_of_nodes 1 laters ++ cause_of_merge later.end ∷ []) outcome

-- so it is, or nothing was done
abbrev pub WereJobsRun : {S D : Type 0} → SourceWords S → DiskWords D → ℕ → List DumperState → Option (ℕ × Key) → List (SourcedStage S) → MergeState → List (SourcedStage S) → MergeState → List D → List D → D → D → Outcome → Type 0
WereJobsRun s w rotation dumpers behind jobs merge laters later outs outs_now task task_now outcome =
    ((laters ≡ jobs) × (later ≡ merge) × DidNothing jobs laters outs outs_now task task_now outcome)
    ⊎ HaveJobsRun s w rotation dumpers behind jobs merge laters later outs outs_now task task_now outcome

-- behind the file that follows its Front an output has nothing
abbrev pub IsClear : Image → Type 0
IsClear image = (front : Front) → IsFound image front → AreEmptyBehind (front.file + 1) image
