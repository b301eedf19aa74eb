-- A pass that opened and ran its windows keeps the headline.
use Rattle.std.proofs.Common.{◌≡◌, ℕ, ◌≤◌, IsTrue, List, [], ◌∷◌, ◌++◌, length, map, Some, Ok, refl, ap, subst}
use Rattle.std.specs.List.{AllZip, AllByRecursion}
use Rattle.cdc_base.specs.declared.key.Key.{Key}
use Rattle.cdc_outside.specs.Count.{Rose}
use Rattle.cdc_outside.specs.Disk.{Image}
use Rattle.cdc_model.specs.declared.layout.Layout.{Layout}
use Rattle.cdc_records.proofs.OnePoint.{image_has_one_point}
use Rattle.cdc_model.specs.Restart.{RestartPoint}
use Rattle.cdc_reader.specs.Asking.{NothingBelow}
use Rattle.cdc_recovery.specs.Outputs.{planned_transactions, KeepsFrom}
use Rattle.cdc_recovery.specs.Growing.{Each}
use Rattle.cdc_recovery.specs.Laws.{LatestIsLast}
use Rattle.cdc_dump_stage.specs.Disks.{DiskWords}
use Rattle.cdc_merge_stage.specs.declared.merge_end.MergeEnd.{MergeEnd}
use Rattle.cdc_node_stage.specs.Job.{SourceWords, SourcedStage}
use Rattle.cdc_opening.specs.declared.outcome.Outcome.{Outcome}
use Rattle.cdc_opening.specs.declared.outcome.Outcome.TheVariants.{Done, Disk, TaskDisk, Read, Memory, TooLarge, Node, Open, Task, Behind, Differs, Key as OtherKey}
use Rattle.cdc_opening.specs.Lists.{AllThree}
use Rattle.cdc_opening.specs.Outcomes.{ComesBefore}
use Rattle.cdc_kept.specs.Kept.{PassStart, opened_start}
use Rattle.cdc_kept.specs.Laws.{OpenedGoesOn}
use Rattle.cdc_reads.specs.Begun.{AllBegin}
use Rattle.cdc_reads.specs.Laws.{JobsReadLogs, AllWindowsGiveAll, TooLargeIsOversized, EndsAreFaults, LastWindowsPointIsTheLast}
use Rattle.cdc_windows.specs.Causes.{IsOneOf, IsCausedBy, causes_of_pass}
use Rattle.cdc_windows.specs.Sourced.{HasReadOn}
use Rattle.cdc_headline.specs.Ending.{causes_of_nodes, cause_of_merge, IsPassEnd}
use Rattle.cdc_headline.specs.Running.{KeepsSource, sources_of}
use Rattle.cdc_headline.specs.Laws.{WindowsKeepHeadline}
use Rattle.cdc_headline.proofs.Lists.{all_joined, all_split}
use Rattle.cdc_headline.proofs.Opening.{opening_of_kept, outs_grew, outs_grew_on, outs_covered, task_stood_before, task_kept_on}
use Rattle.cdc_headline.proofs.Beginning.{files_of_nodes, goes_on, has_begun, has_kept}
use Rattle.cdc_headline.proofs.Causes.{one_has, nodes_have, outs_have, pass_has}
use Rattle.cdc_headline.proofs.Ends.{IsTold, merge_told, HasStopped, reads_all, ends_so}
use Rattle.cdc_headline.proofs.Resuming.{starts_at_point, asked_below, asked_below_since}
use Rattle.cdc_headline.proofs.Lasting.{remember_begun, keeps_last}

-- what an answer about the disks may be
abbrev IsOfDisks : Outcome → Type 0
IsOfDisks Done = Unit {0}
IsOfDisks (Disk out) = Unit {0}
IsOfDisks TaskDisk = Unit {0}
IsOfDisks (Read node) = ⊥
IsOfDisks Memory = Unit {0}
IsOfDisks (TooLarge number bytes) = ⊥
IsOfDisks (Node node place fault) = ⊥
IsOfDisks (Open out fault) = ⊥
IsOfDisks (Task fault) = ⊥
IsOfDisks (Behind node kept given) = ⊥
IsOfDisks (Differs out kept given) = Unit {0}
IsOfDisks (OtherKey out kept given) = Unit {0}

-- the cause of outputs and task is one of them
caused_of_disks : {D : Type 0} (faults : D → ℕ) (olds news : List D) (task_old task_new : D) (cause : Outcome) → IsCausedBy faults olds news task_old task_new cause → IsOfDisks cause
caused_of_disks faults olds news task_old task_new cause by =
    one_has IsOfDisks (causes_of_pass by.jobs by.task_failed by.wanting) cause tt
    (pass_has IsOfDisks by.jobs by.task_failed by.wanting tt (outs_have IsOfDisks faults Rose 1 olds by.jobs tt (λ out kept given. tt) (λ out kept given. tt) by.outs_rose (λ k out is at. tt)) (λ is. tt)) by.first.one

-- where nothing is refused it tells nothing of nodes and merging
disks_told : {S : Type 0} (laters : List (SourcedStage S)) (end : MergeEnd) (cause : Outcome) → IsOfDisks cause
    → ((out : ℕ) → ((kept given : Layout) → cause ≡ Differs out kept given → ⊥) × ((kept given : Key) → cause ≡ OtherKey out kept given → ⊥)) → IsTold laters end cause
disks_told laters end Done of none = tt
disks_told laters end (Disk out) of none = tt
disks_told laters end TaskDisk of none = tt
disks_told laters end (Read node) of none = tt
disks_told laters end Memory of none = tt
disks_told laters end (TooLarge number bytes) of none = absurd of
disks_told laters end (Node node place fault) of none = absurd of
disks_told laters end (Open out fault) of none = absurd of
disks_told laters end (Task fault) of none = absurd of
disks_told laters end (Behind node kept given) of none = absurd of
disks_told laters end (Differs out kept given) of none = absurd ((none out).0 kept given refl)
disks_told laters end (OtherKey out kept given) of none = absurd ((none out).1 kept given refl)

-- what is told of all causes is told of the answer
answer_told : {S : Type 0} (laters : List (SourcedStage S)) (end : MergeEnd) (cause outcome : Outcome) → IsTold laters end cause → IsOneOf outcome (cause ∷ causes_of_nodes 1 laters ++ cause_of_merge end ∷ []) → IsTold laters end outcome
answer_told laters end cause outcome told is =
    one_has (IsTold laters end) (cause ∷ causes_of_nodes 1 laters ++ cause_of_merge end ∷ []) outcome tt (
      told,
      all_joined (IsTold laters end) (causes_of_nodes 1 laters) (cause_of_merge end ∷ [])
          (nodes_have (IsTold laters end) 1 laters tt tt (λ k node is ends. tt) (λ k node place fault is ends. record { behind = k; is_number = is; ends = ends })) (merge_told laters end, tt),
    ) is

-- nothing is read again below the points from which the jobs began
read_on : {S : Type 0} (s : SourceWords S) (jobs laters : List (SourcedStage S)) (nodes mid nodes_now : List S) (points wanted : List RestartPoint) (last : Key) → AllBegin 1 last points jobs → AllZip (HasReadOn s) jobs laters
    → sources_of jobs ≡ mid → sources_of laters ≡ nodes_now → AllZip (KeepsSource s) nodes mid → points ≡ wanted
    → AllThree (λ (cut : RestartPoint) (old : S) (new : S). NothingBelow cut.place (s.lowest old) (s.lowest new)) wanted nodes nodes_now
read_on {S} s jobs laters nodes mid nodes_now points wanted last begin read of to kept are =
    let R : RestartPoint → S → S → Type 0 = λ (cut : RestartPoint) (old : S) (new : S). NothingBelow cut.place (s.lowest old) (s.lowest new) in
    asked_below_since s wanted nodes mid nodes_now kept
    (subst (λ (cuts : List RestartPoint). AllThree R cuts mid nodes_now) are (subst (λ (news : List S). AllThree R points mid news) to (subst (λ (olds : List S). AllThree R points olds (sources_of laters)) of (asked_below s 1 last points jobs laters begin read))))

-- an opening and its windows keep the headline
pub windows_keep_headline : {S D : Type 0} (s : SourceWords S) (w : DiskWords D) → ((disk : D) → IsTrue w.tells → w.may_leave disk (w.seen disk))
    → ((disk : D) (t : ℕ) (image : Image) → IsTrue w.tells → t ≤ w.moment disk → w.may_leave disk image → w.left_since disk t image)
    → OpenedGoesOn → JobsReadLogs s → AllWindowsGiveAll s → TooLargeIsOversized s → EndsAreFaults s → LastWindowsPointIsTheLast s → LatestIsLast → WindowsKeepHeadline s w
windows_keep_headline {S} {D} s w seen_may_stay counts_now opened_goes_on jobs_read_logs all_windows_give_all too_large_is_oversized ends_are_faults last_windows_point_is_the_last latest_is_last = λ plan logs nodes mid nodes_now outs outs_mid outs_now task task_mid task_now opened outcome tells told over has_opened ran.
    let stays : (disk : D) → w.may_leave disk (w.seen disk) = λ disk. seen_may_stay disk told in
    let counts : (disk : D) (t : ℕ) (image : Image) → t ≤ w.moment disk → w.may_leave disk image → w.left_since disk t image = λ disk t image le leaves. counts_now disk t image told le leaves in
    let txns = planned_transactions plan logs in
    let start = opened_start nodes opened in
    let opening = opening_of_kept w stays counts s plan logs nodes mid outs outs_mid task task_mid (Ok opened) over has_opened in
    let sound = goes_on s plan logs nodes opened opened.dumpers.items (opened_goes_on plan (map s.held nodes) logs (map w.seen outs) (w.seen task) opened opening has_opened.start) in
    let begun = has_begun s w plan logs nodes mid nodes_now outs outs_mid outs_now task task_mid task_now opened outcome over has_opened ran sound tells in
    let reads = jobs_read_logs plan logs start.points ran.jobs ran.merge begun in
    let kept = has_kept s w plan logs nodes mid nodes_now outs outs_mid outs_now task task_mid task_now opened outcome over has_opened ran sound told reads in
    let given = reads.gives ran.laters ran.later ran.ran.window ran.ran.sends ran.ran.gives ran.ran.ended in
    let later_ones = all_split (λ (cause : Outcome). ComesBefore cause outcome → ⊥) (causes_of_nodes 1 ran.laters) (cause_of_merge ran.later.end ∷ []) ran.first.none_before.1 in
    let stopped : HasStopped s plan logs ran.jobs ran.laters ran.later ran.passed outcome = record {
      told = answer_told ran.laters ran.later.end ran.passed.cause outcome (disks_told ran.laters ran.later.end ran.passed.cause (caused_of_disks w.faults outs_mid outs_now task_mid task_now ran.passed.cause ran.caused) kept.refuses_none) ran.first.one;
      disks_later = ran.first.none_before.0;
      nodes_later = later_ones.0;
      merge_later = later_ones.1.0;
      over = ran.over;
      whole = ran.whole;
      merged = ran.merged;
      all_given = λ through is. all_windows_give_all plan logs start.points ran.jobs ran.merge ran.laters ran.later begun ran.ran through is;
      too_large = λ number bytes is. too_large_is_oversized plan logs start.points ran.jobs ran.merge ran.laters ran.later number bytes begun ran.ran is;
      ended = λ are_over. ends_are_faults plan logs start.points ran.jobs ran.merge ran.laters ran.later begun ran.ran are_over;
    } in
    let ends = ends_so s tells plan logs ran.jobs ran.laters ran.later ran.passed outcome stopped in
    let opening_grew = outs_grew w stays counts told plan txns outs outs_mid has_opened.outs_kept in
    let goes_on_so =
    task_stood_before w stays counts told plan logs ran.later.behind.count (length txns) outs_now task task_mid task_now given.within over.task_kept has_opened.task_kept
    (kept.task (outs_covered w stays counts plan txns 0 outs outs_mid opening_grew over.outs_kept) (task_kept_on w stays counts told plan logs task task_mid over.task_kept has_opened.task_kept)) in
    record {
      outs_grow = outs_grew_on w stays counts plan txns outs outs_mid outs_now opening_grew kept.outs;
      task_goes_on = goes_on_so;
      published = λ all.
          let both = ends.all all in
          subst (λ (count : ℕ). AllByRecursion (λ (disk : D). Each (w.may_leave disk) (KeepsFrom plan txns count)) outs_now) both.1 (kept.all both.0);
      last = λ all.
          let out = reads_all s tells plan logs ran.jobs ran.laters ran.later ran.passed outcome stopped all in
          keeps_last s w counts latest_is_last plan logs ran.laters ran.later (length txns) outs_now task task_now
          (λ cuts may. last_windows_point_is_the_last plan logs start.points ran.jobs ran.merge ran.laters ran.later cuts begun ran.ran out.through out.whole may)
          (ran.last told logs ran.merge.start.count reads (remember_begun s plan logs start.points ran.jobs ran.merge begun) out.late) goes_on_so;
      ends = subst (λ (files : List (List (List ℕ))). IsPassEnd plan logs files outcome) (files_of_nodes s nodes mid ran.jobs ran.of_nodes has_opened.nodes_kept) ends.ends;
      resumed = λ point has reached.
          let at_point = starts_at_point w.seen plan txns nodes outs opened.dumpers.items opened.kept opened.start point has_opened.disks.0 reached has_opened.start (image_has_one_point (w.seen task) opened.kept (Some point) has_opened.disks.1 has) in
          read_on s ran.jobs ran.laters nodes mid nodes_now start.points point.nodes start.last ran.begin ran.ran.ended.nodes_on ran.of_nodes ran.to_nodes has_opened.nodes_kept (ap (λ (st : PassStart). st.points) at_point);
    }
