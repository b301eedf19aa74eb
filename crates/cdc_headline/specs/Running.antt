-- A pass from outside: what stands before it, what its opening left, and what its windows did.
use Rattle.std.specs.Prelude.{◌≡◌, ◌<◌, ◌≤◌, ◌↔◌, ℕ, true, false, IsTrue, List, [], ◌∷◌, ◌++◌, length, map, Option, Result, IfOk}
use Rattle.std.specs.List.{AllZip, AllByRecursion}
use Rattle.cdc_base.specs.declared.key.Key.{Key}
use Rattle.cdc_outside.specs.Disk.{Image}
use Rattle.cdc_model.specs.declared.node_log.NodeLog.{NodeLog}
use Rattle.cdc_model.specs.Growth.{IsReadWhole}
use Rattle.cdc_model.specs.Transaction.{key_at}
use Rattle.cdc_records.specs.declared.checkpoint.Checkpoint.{Checkpoint}
use Rattle.cdc_recovery.specs.Outputs.{OutputPlan, planned_transactions, KeepsFrom}
use Rattle.cdc_recovery.specs.Checkpoints.{KeepsPoint}
use Rattle.cdc_recovery.specs.Growing.{Each}
use Rattle.cdc_dumper.specs.State.{DumperState}
use Rattle.cdc_dump_stage.specs.Disks.{DiskWords}
use Rattle.cdc_kept.specs.Kept.{PassStart}
use Rattle.cdc_merge_stage.specs.declared.start.MergeStart.{MergeStart}
use Rattle.cdc_merge_stage.specs.Merged.{MergeState, merges_on, merge_account}
use Rattle.cdc_node_stage.specs.Job.{SourceWords, SourcedStage, node_account}
use Rattle.cdc_opening.specs.declared.opened.Opened.{Opened}
use Rattle.cdc_opening.specs.declared.outcome.Outcome.{Outcome}
use Rattle.cdc_opening.specs.Answers.{AnswersDisks, AnswersLogs, published_counts}
use Rattle.cdc_opening.specs.Lists.{AllThree}
use Rattle.cdc_opening.specs.OpenOuts.{IsOutOpened, IsOutKept}
use Rattle.cdc_opening.specs.Outcomes.{place_of_outcome}
use Rattle.cdc_opening.specs.TaskAnswers.{IsTaskKept}
use Rattle.cdc_reads.specs.Begun.{AllBegin, HasPassRun}
use Rattle.cdc_task.specs.declared.start.Start.TheVariants.{Cut}
use Rattle.cdc_task.specs.Task.{GoesOnFrom}
use Rattle.cdc_windows.specs.declared.pass.Passed.{Passed}
use Rattle.cdc_windows.specs.Causes.{IsFirstPassCause, IsCausedBy}
use Rattle.cdc_windows.specs.Jobs.{StartsSoundly}
use Rattle.cdc_windows.specs.Passes.{PassKeeps}
use Rattle.cdc_windows.specs.Rereading.{AreOver, RememberFrom}
use Rattle.cdc_windows.specs.Sourced.{node_rereading, reached_by}
use Rattle.cdc_windows.specs.Windows.{ReadLogs, IsLastKept}
use Rattle.cdc_headline.specs.Ending.{causes_of_nodes, cause_of_merge}

-- before a pass: its sources have the bytes of these logs, each image of each output keeps some first transactions of them, and
-- each image of the task a checkpoint that is sound for them, or none
pub record IsPassOver {S D : Type 0} (s : SourceWords S) (w : DiskWords D) (plan : OutputPlan) (logs : List NodeLog) (nodes : List S) (outs : List D) (task : D) : Type 0 where
  pub whole : AllZip IsReadWhole (map s.held nodes) logs
  pub outs_kept : AllByRecursion (λ (disk : D). Each (w.may_leave disk) (KeepsFrom plan (planned_transactions plan logs) 0)) outs
  pub task_kept : Each (w.may_leave task) (λ (image : Image). (point : Option Checkpoint) × KeepsPoint plan logs point image)

-- a source holds what it held and was asked for nothing; its count of faults doesn't fall
pub record KeepsSource {S : Type 0} (s : SourceWords S) (old new : S) : Type 0 where
  pub held : s.held new ≡ s.held old
  pub lowest : s.lowest new ≡ s.lowest old
  pub later : s.faults old ≤ s.faults new

-- what the opening of a pass answered, by what the disks and the sources hold, and what it left
pub record HasOpened {S D : Type 0} (s : SourceWords S) (w : DiskWords D) (plan : OutputPlan) (nodes nodes_now : List S) (outs outs_now : List D) (task task_now : D) (result : Result Opened Outcome) : Type 0 where
  pub disks : AnswersDisks (map w.seen outs) (w.seen task) (length nodes) plan.rotation result
  pub logs : AnswersLogs (map w.seen outs) (w.seen task) (map s.held nodes) result
  pub start : IfOk result (λ (opened : Opened). (opened.start ≡ Cut) ↔ GoesOnFrom opened.kept (published_counts opened.dumpers.items))
  pub opened : IfOk result (λ (opened : Opened). AllThree (IsOutOpened w.tells w.seen w.synced w.pending) outs opened.dumpers.items outs_now)
  pub outs_kept : AllZip (IsOutKept w.tells w.seen w.may_leave w.moment w.left_since w.faults) outs outs_now
  pub task_kept : IsTaskKept w.tells w.seen w.may_leave w.moment w.left_since w.faults task task_now
  pub nodes_kept : AllZip (KeepsSource s) nodes nodes_now

-- the sources of jobs
abbrev pub sources_of : {S : Type 0} → List (SourcedStage S) → List S
sources_of {S} jobs = map (λ (job : SourcedStage S). job.source) jobs

-- where the merging of a pass begins
abbrev pub merge_start_of : PassStart → MergeStart
merge_start_of start = record { count = start.count; last = start.last; before = start.before }

-- a pass behind its opening ran its windows, from this start and with these dumpers, to this answer: its jobs began at the start's
-- points, ran to the end of a window, and kept outputs and task, whatever logs they read; the answer is the first of what the
-- windows, the nodes' readings and the merging tell
pub record HasRunWindows {S D : Type 0} (s : SourceWords S) (w : DiskWords D) (plan : OutputPlan) (start : PassStart) (dumpers : List DumperState) (behind : Option (ℕ × Key)) (nodes nodes_now : List S) (outs outs_now : List D) (task task_now : D) (outcome : Outcome) : Type 0 where
  pub jobs : List (SourcedStage S)
  pub merge : MergeState
  pub laters : List (SourcedStage S)
  pub later : MergeState
  pub passed : Passed
  pub of_nodes : sources_of jobs ≡ nodes
  pub to_nodes : sources_of laters ≡ nodes_now
  pub begin : AllBegin 1 start.last start.points jobs
  pub merges_from : merge.start ≡ merge_start_of start
  pub rules : merge.maker.rules ≡ plan.rules
  pub rotation : merge.maker.rotation ≡ plan.rotation
  pub ran : HasPassRun s jobs merge laters later
  pub over : 10 < place_of_outcome passed.cause → AreOver (node_rereading s) laters
  pub whole : 11 < place_of_outcome passed.cause → passed.whole ≡ true
  pub merged : merges_on later.end ≡ false
  pub keeps : IsTrue w.tells → (logs : List NodeLog) (from : ℕ) (olds : List D) → ReadLogs (node_account s) merge_account (node_rereading s) reached_by plan logs from jobs merge
      → AllThree (IsOutOpened w.tells w.seen w.synced w.pending) olds dumpers outs
      → AllByRecursion (λ (disk : D). Each (w.may_leave disk) (KeepsFrom plan (planned_transactions plan logs) 0)) olds
      → StartsSoundly (planned_transactions plan logs) behind
      → AllByRecursion (λ (dumper : DumperState). from ≤ dumper.published.count) dumpers
      → PassKeeps w plan logs later.behind.count passed outs outs_now task task_now
  pub last : IsTrue w.tells → (logs : List NodeLog) (from : ℕ) → ReadLogs (node_account s) merge_account (node_rereading s) reached_by plan logs from jobs merge
      → RememberFrom (node_rereading s) (key_at (planned_transactions plan logs) from) jobs → 11 < place_of_outcome passed.cause
      → IsLastKept w (node_rereading s) plan.rotation laters (reached_by later) task_now
  pub caused : IsCausedBy w.faults outs outs_now task task_now passed.cause
  pub first : IsFirstPassCause (passed.cause ∷ causes_of_nodes 1 laters ++ cause_of_merge later.end ∷ []) outcome
