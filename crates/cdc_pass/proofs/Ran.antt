-- What jobs that were run in windows did, as what a pass did.
use Rattle.std.proofs.Common.{◌≡◌, ℕ, ◌≤◌, ◌⊎◌, inl, inr, Bool, List, [], ◌∷◌, length, map, Option, refl, sym, ◌∙◌, ap, subst}
use Rattle.std.specs.List.{AllZip, AllByRecursion}
use Rattle.cdc_base.specs.declared.key.Key.{Key}
use Rattle.cdc_dumper.specs.State.{DumperState}
use Rattle.cdc_dump_stage.specs.Disks.{DiskWords}
use Rattle.cdc_item.specs.declared.node_item.NodeItem.{NodeItem}
use Rattle.cdc_item.specs.declared.dump_item.DumpItem.{DumpItem}
use Rattle.cdc_kept.specs.Kept.{PassStart}
use Rattle.cdc_merge_stage.specs.Merged.{MergeState, MergeDid}
use Rattle.cdc_node_stage.specs.Sending.{node_state, HasSent}
use Rattle.cdc_node_stage.specs.Job.{SourceWords, SourcedStage}
use Rattle.cdc_opening.specs.declared.outcome.Outcome.{Outcome}
use Rattle.cdc_reads.specs.Begun.{AllBegin}
use Rattle.cdc_recovery.specs.Outputs.{OutputPlan}
use Rattle.cdc_turns.specs.Joined.{nothing_for}
use Rattle.cdc_windows.specs.Sourced.{HasReadOn}
use Rattle.cdc_windows.proofs.Starting.{same_nothing}
use Rattle.cdc_headline.specs.Running.{sources_of, merge_start_of, HasRunWindows}
use Rattle.cdc_pass.specs.Starting.{HasSentNothing, DidNothing, HaveJobsRun, WereJobsRun}
use Rattle.cdc_pass.proofs.Falling.{none_falls}

-- in the first window nothing was sent
pub nothing_sent : {S : Type 0} (tells : Bool) (held : S → List (List ℕ)) (jobs : List (SourcedStage S)) → AllByRecursion (HasSentNothing tells held) jobs
    → AllZip (λ (job : SourcedStage S) (items : List NodeItem). HasSent tells (held job.source) (node_state job.stage) 1 items) jobs (nothing_for jobs)
nothing_sent tells held [] fresh = tt
nothing_sent tells held (j ∷ jobs) fresh = (fresh.0, nothing_sent tells held jobs fresh.1)

-- and nothing was merged
pub nothing_merged : {A D : Type 0} (merge : MergeState) (jobs : List A) (disks : List D) → length merge.took ≡ length jobs → length merge.slots ≡ length disks
    → MergeDid 1 merge (nothing_for merge.took) (nothing_for merge.slots) → MergeDid 1 merge (nothing_for jobs) (nothing_for disks)
nothing_merged merge jobs disks took gave did =
    subst (λ (takes : List (List NodeItem)). MergeDid 1 merge takes (nothing_for disks)) (same_nothing merge.took jobs took)
    (subst (λ (gives : List (List DumpItem)). MergeDid 1 merge (nothing_for merge.took) gives) (same_nothing merge.slots disks gave) did)

-- jobs that read on hold the same bytes
zip_held : {S : Type 0} (s : SourceWords S) (jobs laters : List (SourcedStage S)) → AllZip (HasReadOn s) jobs laters → map s.held (sources_of laters) ≡ map s.held (sources_of jobs)
zip_held s [] [] all = refl
zip_held s [] (l ∷ laters) all = absurd all
zip_held s (j ∷ jobs) [] all = absurd all
zip_held s (j ∷ jobs) (l ∷ laters) all = ap (λ files. files ∷ map s.held (sources_of laters)) all.0.asked.held ∙ ap (λ rest. s.held j.source ∷ rest) (zip_held s jobs laters all.1)

-- and their counts of faults don't fall
zip_later : {S : Type 0} (s : SourceWords S) (jobs laters : List (SourcedStage S)) → AllZip (HasReadOn s) jobs laters → AllZip (λ (old : S) (new : S). s.faults old ≤ s.faults new) (sources_of jobs) (sources_of laters)
zip_later s [] [] all = tt
zip_later s [] (l ∷ laters) all = absurd all
zip_later s (j ∷ jobs) [] all = absurd all
zip_later s (j ∷ jobs) (l ∷ laters) all = (all.0.asked.later, zip_later s jobs laters all.1)

module _ {S D : Type 0} (s : SourceWords S) (w : DiskWords D) where
  -- sources hold what they held
  pub still_held : (rotation : ℕ) (dumpers : List DumperState) (behind : Option (ℕ × Key)) (jobs : List (SourcedStage S)) (merge : MergeState) (laters : List (SourcedStage S)) (later : MergeState) (outs outs_now : List D) (task task_now : D) (outcome : Outcome)
      → WereJobsRun s w rotation dumpers behind jobs merge laters later outs outs_now task task_now outcome → map s.held (sources_of laters) ≡ map s.held (sources_of jobs)
  still_held rotation dumpers behind jobs merge laters later outs outs_now task task_now outcome (inl nothing) = ap (λ (js : List (SourcedStage S)). map s.held (sources_of js)) nothing.0
  still_held rotation dumpers behind jobs merge laters later outs outs_now task task_now outcome (inr ran) = zip_held s jobs laters ran.ran.ended.nodes_on

  -- no count of theirs falls
  pub none_fell : (rotation : ℕ) (dumpers : List DumperState) (behind : Option (ℕ × Key)) (jobs : List (SourcedStage S)) (merge : MergeState) (laters : List (SourcedStage S)) (later : MergeState) (outs outs_now : List D) (task task_now : D) (outcome : Outcome)
      → WereJobsRun s w rotation dumpers behind jobs merge laters later outs outs_now task task_now outcome → AllZip (λ (old : S) (new : S). s.faults old ≤ s.faults new) (sources_of jobs) (sources_of laters)
  none_fell rotation dumpers behind jobs merge laters later outs outs_now task task_now outcome (inl nothing) =
      subst (λ (js : List (SourcedStage S)). AllZip (λ (old : S) (new : S). s.faults old ≤ s.faults new) (sources_of jobs) (sources_of js)) (sym nothing.0) (none_falls s.faults (sources_of jobs))
  none_fell rotation dumpers behind jobs merge laters later outs outs_now task task_now outcome (inr ran) = zip_later s jobs laters ran.ran.ended.nodes_on

  -- jobs that were run in windows, as a pass that ran its windows
  windows_ran : (plan : OutputPlan) (from : PassStart) (dumpers : List DumperState) (behind : Option (ℕ × Key)) (jobs : List (SourcedStage S)) (merge : MergeState) (laters : List (SourcedStage S)) (later : MergeState)
      (nodes nodes_now : List S) (outs outs_now : List D) (task task_now : D) (outcome : Outcome)
      → sources_of jobs ≡ nodes → sources_of laters ≡ nodes_now → AllBegin 1 from.last from.points jobs → merge.start ≡ merge_start_of from → merge.maker.rules ≡ plan.rules → merge.maker.rotation ≡ plan.rotation
      → HaveJobsRun s w plan.rotation dumpers behind jobs merge laters later outs outs_now task task_now outcome → HasRunWindows s w plan from dumpers behind nodes nodes_now outs outs_now task task_now outcome
  windows_ran plan from dumpers behind jobs merge laters later nodes nodes_now outs outs_now task task_now outcome of_nodes to_nodes begin merges_from rules rotation ran = record {
    jobs = jobs;
    merge = merge;
    laters = laters;
    later = later;
    passed = ran.passed;
    of_nodes = of_nodes;
    to_nodes = to_nodes;
    begin = begin;
    merges_from = merges_from;
    rules = rules;
    rotation = rotation;
    ran = ran.ran;
    over = ran.over;
    whole = ran.whole;
    merged = ran.merged;
    keeps = λ told logs first olds reads opened kept sound few. ran.keeps told plan logs first olds refl reads opened kept sound few;
    last = λ told logs first reads low behind. ran.last told plan logs first reads low behind;
    caused = ran.caused;
    first = ran.first;
  }

  -- a pass ran its windows, or did nothing
  pub pass_ran : (plan : OutputPlan) (from : PassStart) (dumpers : List DumperState) (behind : Option (ℕ × Key)) (jobs : List (SourcedStage S)) (merge : MergeState) (laters : List (SourcedStage S)) (later : MergeState)
      (nodes nodes_now : List S) (outs outs_now : List D) (task task_now : D) (outcome : Outcome)
      → sources_of jobs ≡ nodes → sources_of laters ≡ nodes_now → AllBegin 1 from.last from.points jobs → merge.start ≡ merge_start_of from → merge.maker.rules ≡ plan.rules → merge.maker.rotation ≡ plan.rotation
      → WereJobsRun s w plan.rotation dumpers behind jobs merge laters later outs outs_now task task_now outcome
      → DidNothing nodes nodes_now outs outs_now task task_now outcome ⊎ HasRunWindows s w plan from dumpers behind nodes nodes_now outs outs_now task task_now outcome
  pass_ran plan from dumpers behind jobs merge laters later nodes nodes_now outs outs_now task task_now outcome of_nodes to_nodes begin merges_from rules rotation (inl nothing) = inl
      record {
        nodes_same = sym to_nodes ∙ (ap (λ (js : List (SourcedStage S)). sources_of js) nothing.0 ∙ of_nodes);
        outs_same = nothing.2.outs_same;
        task_same = nothing.2.task_same;
        wanting = nothing.2.wanting;
      }
  pass_ran plan from dumpers behind jobs merge laters later nodes nodes_now outs outs_now task task_now outcome of_nodes to_nodes begin merges_from rules rotation (inr ran) =
      inr (windows_ran plan from dumpers behind jobs merge laters later nodes nodes_now outs outs_now task task_now outcome of_nodes to_nodes begin merges_from rules rotation ran)
