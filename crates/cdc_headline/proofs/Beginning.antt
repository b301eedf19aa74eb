-- A pass that was opened over kept disks begins behind planned transactions, and keeps outputs and task.
use Rattle.std.proofs.Common.{◌≡◌, ℕ, ◌≤◌, IsTrue, List, [], ◌∷◌, map, take, Option, Some, None, Ok, refl, sym, ◌∙◌, ap, subst}
use Rattle.std.specs.List.{AllZip, AllByRecursion}
use Rattle.cdc_base.specs.declared.key.Key.{Key}
use Rattle.cdc_base.specs.Key.{first_key}
use Rattle.cdc_model.specs.declared.node_log.NodeLog.{NodeLog}
use Rattle.cdc_model.specs.Growth.{IsReadWhole}
use Rattle.cdc_model.specs.Output.{no_output, layout_in, layout_of}
use Rattle.cdc_model.specs.Restart.{RestartPoint, first_point}
use Rattle.cdc_model.specs.Transaction.{key_at}
use Rattle.cdc_records.specs.declared.checkpoint.Checkpoint.{Checkpoint}
use Rattle.cdc_recovery.specs.Outputs.{OutputPlan, planned_transactions}
use Rattle.cdc_content.specs.Reading.{GoesOnBehind}
use Rattle.cdc_dumper.specs.State.{DumperState}
use Rattle.cdc_dump_stage.specs.Disks.{DiskWords}
use Rattle.cdc_merge_stage.specs.declared.start.MergeStart.{MergeStart}
use Rattle.cdc_merge_stage.specs.Merged.{MergeState, merge_account}
use Rattle.cdc_node_stage.specs.Job.{SourceWords, SourcedStage, node_account}
use Rattle.cdc_opening.specs.declared.opened.Opened.{Opened}
use Rattle.cdc_opening.specs.declared.outcome.Outcome.{Outcome}
use Rattle.cdc_opening.specs.Answers.{used_point}
use Rattle.cdc_task.specs.declared.start.Start.{Start}
use Rattle.cdc_task.specs.declared.start.Start.TheVariants.{First, Cut}
use Rattle.cdc_kept.specs.Kept.{PassStart, start_of_pass, opened_start, GoesOnSoundly}
use Rattle.cdc_reads.specs.Begun.{AllBegin, files_of_jobs, IsPassBegun}
use Rattle.cdc_windows.specs.Jobs.{StartsSoundly, pass_start}
use Rattle.cdc_windows.specs.Passes.{PassKeeps}
use Rattle.cdc_windows.specs.Sourced.{node_rereading, reached_by}
use Rattle.cdc_windows.specs.Windows.{ReadLogs}
use Rattle.cdc_headline.specs.Running.{IsPassOver, HasOpened, KeepsSource, HasRunWindows, sources_of, merge_start_of}

-- ---- the sources of the jobs

-- sources hold what they held
files_kept : {S : Type 0} (s : SourceWords S) (nodes mid : List S) → AllZip (KeepsSource s) nodes mid → map s.held mid ≡ map s.held nodes
files_kept s [] [] kept = refl
files_kept s [] (m ∷ mid) kept = absurd kept
files_kept s (n ∷ nodes) [] kept = absurd kept
files_kept s (n ∷ nodes) (m ∷ mid) kept = ap (λ (files : List (List ℕ)). files ∷ map s.held mid) kept.0.held ∙ ap (λ (rest : List (List (List ℕ))). s.held n ∷ rest) (files_kept s nodes mid kept.1)

-- jobs read what their sources hold
files_of_sources : {S : Type 0} (s : SourceWords S) (jobs : List (SourcedStage S)) → files_of_jobs s jobs ≡ map s.held (sources_of jobs)
files_of_sources s [] = refl
files_of_sources s (job ∷ jobs) = ap (λ (rest : List (List (List ℕ))). s.held job.source ∷ rest) (files_of_sources s jobs)

-- the jobs read what the sources held before the opening
pub files_of_nodes : {S : Type 0} (s : SourceWords S) (nodes mid : List S) (jobs : List (SourcedStage S)) → sources_of jobs ≡ mid → AllZip (KeepsSource s) nodes mid → files_of_jobs s jobs ≡ map s.held nodes
files_of_nodes s nodes mid jobs of kept = files_of_sources s jobs ∙ (ap (λ (sources : List _). map s.held sources) of ∙ files_kept s nodes mid kept)

-- ---- the start

-- as many nodes have as many first points
first_points : {A B : Type 0} (f : A → B) (nodes : List A) → map (λ (node : B). first_point) (map f nodes) ≡ map (λ (node : A). first_point) nodes
first_points f [] = refl
first_points f (n ∷ nodes) = ap (λ (points : List RestartPoint). first_point ∷ points) (first_points f nodes)

-- a start without a checkpoint, at these points
abbrev first_start : List RestartPoint → PassStart
first_start points = record { count = 0; last = first_key; before = layout_in no_output; points = points }

-- of as many nodes it is the same start
same_start : {A B : Type 0} (f : A → B) (nodes : List A) (used : Option Checkpoint) → start_of_pass (map f nodes) used ≡ start_of_pass nodes used
same_start f nodes None = ap (λ (points : List RestartPoint). first_start points) (first_points f nodes)
same_start f nodes (Some point) = refl

-- how many transactions are behind a start
abbrev count_in : Option (ℕ × Key) → ℕ
count_in None = 0
count_in (Some pair) = pair.0

-- its key, or another where there is none
abbrev key_in : Key → Option (ℕ × Key) → Key
key_in other None = other
key_in other (Some pair) = pair.1

-- the key with which a pass goes on is that of its count
starts_soundly : {A : Type 0} (plan : OutputPlan) (logs : List NodeLog) (nodes : List A) (kept : Option Checkpoint) (start : Start)
    → GoesOnBehind plan logs (start_of_pass nodes (used_point start kept)).count (start_of_pass nodes (used_point start kept)).last (start_of_pass nodes (used_point start kept)).points
    → StartsSoundly (planned_transactions plan logs) (pass_start kept start)
starts_soundly plan logs nodes None First behind = λ count key is. absurd (let h = is in cc)
starts_soundly plan logs nodes None Cut behind = λ count key is. absurd (let h = is in cc)
starts_soundly plan logs nodes (Some point) First behind = λ count key is. absurd (let h = is in cc)
starts_soundly plan logs nodes (Some point) Cut behind = λ count key is.
    let many : point.count ≡ count = ap count_in is in
    let last : point.last ≡ key = ap (key_in point.last) is in
    sym last ∙ (behind.key ∙ ap (λ (n : ℕ). key_at (planned_transactions plan logs) n) many)

-- a pass that goes on soundly begins
begins : {S : Type 0} (s : SourceWords S) (plan : OutputPlan) (logs : List NodeLog) (start : PassStart) (dumpers : List DumperState) (jobs : List (SourcedStage S)) (merge : MergeState)
    → IsTrue s.tells → AllZip IsReadWhole (files_of_jobs s jobs) logs → GoesOnSoundly plan logs start dumpers → AllBegin 1 start.last start.points jobs
    → merge.start ≡ merge_start_of start → merge.maker.rules ≡ plan.rules → merge.maker.rotation ≡ plan.rotation → IsPassBegun s plan logs start.points jobs merge
begins s plan logs start dumpers jobs merge told whole sound begin from rules rotation = record {
  tells = told;
  whole = whole;
  behind = subst (λ (m : MergeStart). GoesOnBehind plan logs m.count m.last start.points) (sym from) sound.behind;
  layout = subst (λ (m : MergeStart). m.before ≡ layout_of plan.rules plan.rotation (take m.count (planned_transactions plan logs))) (sym from) sound.layout;
  begin = subst (λ (m : MergeStart). AllBegin 1 m.last start.points jobs) (sym from) begin;
  rules = rules;
  rotation = rotation;
}

-- of an opening over kept disks
pub goes_on : {S : Type 0} (s : SourceWords S) (plan : OutputPlan) (logs : List NodeLog) (nodes : List S) (opened : Opened) (dumpers : List DumperState)
    → GoesOnSoundly plan logs (opened_start (map s.held nodes) opened) dumpers → GoesOnSoundly plan logs (opened_start nodes opened) dumpers
goes_on s plan logs nodes opened dumpers sound =
    subst (λ (start : PassStart). GoesOnSoundly plan logs start dumpers) (same_start s.held nodes (used_point opened.start opened.kept)) sound

module _ {S D : Type 0} (s : SourceWords S) (w : DiskWords D) (plan : OutputPlan) (logs : List NodeLog) (nodes mid nodes_now : List S) (outs outs_mid outs_now : List D) (task task_mid task_now : D) (opened : Opened) (outcome : Outcome)
    (over : IsPassOver s w plan logs nodes outs task) (has_opened : HasOpened s w plan nodes mid outs outs_mid task task_mid (Ok opened))
    (ran : HasRunWindows s w plan (opened_start nodes opened) opened.dumpers.items (pass_start opened.kept opened.start) mid nodes_now outs_mid outs_now task_mid task_now outcome)
    (sound : GoesOnSoundly plan logs (opened_start nodes opened) opened.dumpers.items) where
  -- a pass that was opened over kept disks begins behind planned transactions
  pub has_begun : IsTrue s.tells → IsPassBegun s plan logs (opened_start nodes opened).points ran.jobs ran.merge
  has_begun told =
      begins s plan logs (opened_start nodes opened) opened.dumpers.items ran.jobs ran.merge told
      (subst (λ (files : List (List (List ℕ))). AllZip IsReadWhole files logs) (sym (files_of_nodes s nodes mid ran.jobs ran.of_nodes has_opened.nodes_kept)) over.whole) sound ran.begin ran.merges_from ran.rules ran.rotation

  -- what its windows keep, where its jobs read the logs
  pub has_kept : IsTrue w.tells → ReadLogs (node_account s) merge_account (node_rereading s) reached_by plan logs ran.merge.start.count ran.jobs ran.merge
      → PassKeeps w plan logs ran.later.behind.count ran.passed outs_mid outs_now task_mid task_now
  has_kept told reads =
      ran.keeps told logs ran.merge.start.count outs reads has_opened.opened over.outs_kept (starts_soundly plan logs nodes opened.kept opened.start sound.behind)
      (subst (λ (m : MergeStart). AllByRecursion (λ (dumper : DumperState). m.count ≤ dumper.published.count) opened.dumpers.items) (sym ran.merges_from) sound.reached)
