-- What the opening of kept disks leaves, and how it ends.
use Rattle.std.proofs.Common.{◌≡◌, ℕ, ◌≤◌, ◌⊎◌, inl, inr, IsTrue, List, [], ◌∷◌, length, map, Option, Some, Result, Err, IfErr, IfSome, refl, sym, ◌∙◌, ap, subst, arith}
use Rattle.std.specs.List.{AllZip, AllByRecursion, enumerate_from}
use Rattle.std.proofs.lemmas.List.{length-map}
use Rattle.std.proofs.lemmas.List.FromFn.{length-enumerate_from}
use Rattle.cdc_outside.specs.Disk.{Image}
use Rattle.cdc_outside.specs.Source.{lowered}
use Rattle.cdc_outside.proofs.Moments.{joined, weaker}
use Rattle.cdc_model.specs.declared.node_log.NodeLog.{NodeLog}
use Rattle.cdc_model.specs.Growth.{IsReadWhole}
use Rattle.cdc_model.specs.Records.{Transaction}
use Rattle.cdc_model.specs.Restart.{RestartPoint, first_point, IsRestartPoint}
use Rattle.cdc_model.specs.Soundness.{sound_entries}
use Rattle.cdc_records.specs.declared.checkpoint.Checkpoint.{Checkpoint}
use Rattle.cdc_records.specs.Checkpoint.{HasPoint}
use Rattle.cdc_records.proofs.OnePoint.{image_has_one_point}
use Rattle.cdc_reader.specs.Asking.{NothingBelow}
use Rattle.cdc_recovery.specs.Outputs.{OutputPlan, planned_transactions, KeepsFrom}
use Rattle.cdc_recovery.specs.Checkpoints.{IsRecoverablePoint, KeepsPoint, KeepsTask, IsCovered, kept_on, stored}
use Rattle.cdc_recovery.specs.Growing.{Each}
use Rattle.cdc_recovery.proofs.Runs.{each_behind, growing_goes_on}
use Rattle.cdc_dump_stage.specs.Disks.{DiskWords, LosesNothing}
use Rattle.cdc_node_stage.specs.Job.{SourceWords}
use Rattle.cdc_opening.specs.declared.opened.Opened.{Opened}
use Rattle.cdc_opening.specs.declared.outcome.Outcome.{Outcome}
use Rattle.cdc_opening.specs.declared.outcome.Outcome.TheVariants.{Done, Disk, TaskDisk, Read, Memory, TooLarge, Node, Open, Task, Behind, Differs, Key as OtherKey}
use Rattle.cdc_opening.specs.Answers.{AnswersDisks}
use Rattle.cdc_opening.specs.Lists.{AllThree}
use Rattle.cdc_opening.specs.OpenOuts.{IsOutKept}
use Rattle.cdc_opening.specs.TaskAnswers.{IsTaskKept}
use Rattle.cdc_kept.specs.Kept.{MayAnswer}
use Rattle.cdc_kept.specs.Laws.{IsOpeningOfKept, KeptIsOpened}
use Rattle.cdc_windows.specs.Windows.{TaskGoesOn}
use Rattle.cdc_headline.specs.Ending.{IsPassEnd, PublishesAll, ReadsAll}
use Rattle.cdc_headline.specs.Running.{IsPassOver, HasOpened, KeepsSource}
use Rattle.cdc_headline.specs.Laws.{OpeningKeepsHeadline}
use Rattle.cdc_headline.proofs.Lists.{all_seen, zip_weaker, zip_long}

-- such an answer is an end of a pass
answer_ends : (plan : OutputPlan) (logs : List NodeLog) (nodes : List (List (List ℕ))) (outcome : Outcome) → MayAnswer outcome → IsPassEnd plan logs nodes outcome
answer_ends plan logs nodes Done may = absurd may
answer_ends plan logs nodes (Disk out) may = tt
answer_ends plan logs nodes TaskDisk may = tt
answer_ends plan logs nodes (Read node) may = tt
answer_ends plan logs nodes Memory may = tt
answer_ends plan logs nodes (TooLarge number bytes) may = absurd may
answer_ends plan logs nodes (Node node place fault) may = absurd may
answer_ends plan logs nodes (Open out fault) may = absurd may
answer_ends plan logs nodes (Task fault) may = absurd may
answer_ends plan logs nodes (Behind node kept given) may = absurd may
answer_ends plan logs nodes (Differs out kept given) may = absurd may
answer_ends plan logs nodes (OtherKey out kept given) may = absurd may

-- with none of them all is published
answer_publishes_less : (outcome : Outcome) → MayAnswer outcome → PublishesAll outcome → ⊥
answer_publishes_less Done may all = may
answer_publishes_less (Disk out) may all = all
answer_publishes_less TaskDisk may all = all
answer_publishes_less (Read node) may all = all
answer_publishes_less Memory may all = all
answer_publishes_less (TooLarge number bytes) may all = may
answer_publishes_less (Node node place fault) may all = may
answer_publishes_less (Open out fault) may all = may
answer_publishes_less (Task fault) may all = may
answer_publishes_less (Behind node kept given) may all = may
answer_publishes_less (Differs out kept given) may all = may
answer_publishes_less (OtherKey out kept given) may all = may

-- with none of them all is read
answer_reads_less : (outcome : Outcome) → MayAnswer outcome → ReadsAll outcome → ⊥
answer_reads_less Done may all = may
answer_reads_less (Disk out) may all = all
answer_reads_less TaskDisk may all = all
answer_reads_less (Read node) may all = all
answer_reads_less Memory may all = all
answer_reads_less (TooLarge number bytes) may all = all
answer_reads_less (Node node place fault) may all = may
answer_reads_less (Open out fault) may all = all
answer_reads_less (Task fault) may all = all
answer_reads_less (Behind node kept given) may all = all
answer_reads_less (Differs out kept given) may all = all
answer_reads_less (OtherKey out kept given) may all = all

-- what an opening answered, or want of memory behind it
may_answer : (result : Result Opened Outcome) (outcome : Outcome) → IfErr result MayAnswer → (result ≡ Err outcome) ⊎ (outcome ≡ Memory) → MayAnswer outcome
may_answer result outcome answers (inl is) = subst (λ (r : Result Opened Outcome). IfErr r MayAnswer) is answers
may_answer result outcome answers (inr is) = subst (λ (o : Outcome). MayAnswer o) (sym is) tt

-- where the images of the start are among those of another start
from_start : (starts others : Image → Type 0) → ((image : Image) → starts image → others image) → (most : ℕ) (point : Option Checkpoint) (image : Image) → IsCovered starts most point image → IsCovered others most point image
from_start starts others among most point image (kept_on start is same) = kept_on start (among start is) same
from_start starts others among most point image (stored p is few) = stored p is few

-- sources that were asked for nothing were asked for nothing below any points
pub nothing_asked : {S : Type 0} (s : SourceWords S) (points : List RestartPoint) (nodes nodes_now : List S) → length points ≡ length nodes → AllZip (KeepsSource s) nodes nodes_now
    → AllThree (λ (cut : RestartPoint) (old : S) (new : S). NothingBelow cut.place (s.lowest old) (s.lowest new)) points nodes nodes_now
nothing_asked s [] [] [] long all = tt
nothing_asked s [] [] (n ∷ nodes_now) long all = absurd all
nothing_asked s [] (o ∷ nodes) nodes_now long all = absurd (omega (arith, long))
nothing_asked s (p ∷ points) [] nodes_now long all = absurd (omega (arith, long))
nothing_asked s (p ∷ points) (o ∷ nodes) [] long all = absurd all
nothing_asked s (p ∷ points) (o ∷ nodes) (n ∷ nodes_now) long all =
    (ap (λ lowest. lowered lowest p.place.file p.place.at) all.0.lowest, nothing_asked s points nodes nodes_now (omega (arith, long)) all.1)

-- a sound checkpoint has a point for each node
points_long : (plan : OutputPlan) (logs : List NodeLog) (nodes : List (List (List ℕ))) (point : Checkpoint) → AllZip IsReadWhole nodes logs → IsRecoverablePoint plan logs point → length point.nodes ≡ length nodes
points_long plan logs nodes point whole recoverable =
    let a = zip_long IsReadWhole nodes logs whole in
    let b : length (enumerate_from 1 logs) ≡ length point.nodes =
    zip_long (λ (node : ℕ × NodeLog) (cut : RestartPoint). IsRestartPoint point.last first_point node.0 (sound_entries node.1.start node.1.entries) cut) (enumerate_from 1 logs) point.nodes recoverable.sound.points in
    let d = length-enumerate_from 1 logs in
    omega (arith, a, b, d)

module _ {D : Type 0} (w : DiskWords D) (seen_may_stay : (disk : D) → w.may_leave disk (w.seen disk)) (counts_now : (disk : D) (t : ℕ) (image : Image) → t ≤ w.moment disk → w.may_leave disk image → w.left_since disk t image) where
  -- the checkpoint that is seen of a task is recoverable
  pub task_point : (plan : OutputPlan) (logs : List NodeLog) (task : D) (point : Checkpoint) → Each (w.may_leave task) (λ (image : Image). (kept : Option Checkpoint) × KeepsPoint plan logs kept image)
      → HasPoint (w.seen task) (Some point) → IsRecoverablePoint plan logs point
  task_point plan logs task point kept has =
      let seen = kept (w.seen task) (seen_may_stay task) in
      subst (λ (p : Option Checkpoint). IfSome p (IsRecoverablePoint plan logs)) (image_has_one_point (w.seen task) seen.0 (Some point) seen.1.has has) seen.1.recoverable

  -- what is seen is what may be left
  pub opening_of_kept : {S : Type 0} (s : SourceWords S) (plan : OutputPlan) (logs : List NodeLog) (nodes nodes_now : List S) (outs outs_now : List D) (task task_now : D) (result : Result Opened Outcome)
      → IsPassOver s w plan logs nodes outs task → HasOpened s w plan nodes nodes_now outs outs_now task task_now result
      → IsOpeningOfKept plan (map s.held nodes) logs (map w.seen outs) (w.seen task) result
  opening_of_kept s plan logs nodes nodes_now outs outs_now task task_now result over opened =
      let seen = over.task_kept (w.seen task) (seen_may_stay task) in
      record {
        whole = over.whole;
        kept = record {
          outs_kept =
              all_seen w.seen (λ (disk : D). Each (w.may_leave disk) (KeepsFrom plan (planned_transactions plan logs) 0)) (KeepsFrom plan (planned_transactions plan logs) 0)
              (λ disk each. each (w.seen disk) (seen_may_stay disk)) outs over.outs_kept;
          point = seen.0;
          task_kept = seen.1;
        };
        disks = subst (λ (count : ℕ). AnswersDisks (map w.seen outs) (w.seen task) count plan.rotation result) (sym (length-map nodes s.held)) opened.disks;
        sources = opened.logs;
      }

  -- no output lost anything
  pub outs_grew : IsTrue w.tells → (plan : OutputPlan) (txns : List Transaction) (outs outs_now : List D) → AllZip (IsOutKept w.tells w.seen w.may_leave w.moment w.left_since w.faults) outs outs_now
      → AllZip (λ (old : D) (new : D). LosesNothing w plan txns old new) outs outs_now
  outs_grew told plan txns outs outs_now kept =
      zip_weaker (IsOutKept w.tells w.seen w.may_leave w.moment w.left_since w.faults) (λ (old : D) (new : D). LosesNothing w plan txns old new) (λ old new one. one.grows told plan txns) outs outs_now kept

  -- over one run and then another
  pub outs_grew_on : (plan : OutputPlan) (txns : List Transaction) (outs mids outs_now : List D) → AllZip (λ (old : D) (new : D). LosesNothing w plan txns old new) outs mids
      → AllZip (λ (old : D) (new : D). LosesNothing w plan txns old new) mids outs_now → AllZip (λ (old : D) (new : D). LosesNothing w plan txns old new) outs outs_now
  outs_grew_on plan txns [] [] [] one two = tt
  outs_grew_on plan txns [] [] (z ∷ zs) one two = absurd two
  outs_grew_on plan txns [] (y ∷ ys) zs one two = absurd one
  outs_grew_on plan txns (x ∷ xs) [] zs one two = absurd one
  outs_grew_on plan txns (x ∷ xs) (y ∷ ys) [] one two = absurd two
  outs_grew_on plan txns (x ∷ xs) (y ∷ ys) (z ∷ zs) one two =
      (growing_goes_on w.may_leave w.moment w.left_since counts_now plan txns x y z one.0 two.0, outs_grew_on plan txns xs ys zs one.1 two.1)

  -- what all images of all outputs keep, they keep over a run
  pub outs_covered : (plan : OutputPlan) (txns : List Transaction) (least : ℕ) (outs outs_now : List D) → AllZip (λ (old : D) (new : D). LosesNothing w plan txns old new) outs outs_now
      → AllByRecursion (λ (disk : D). Each (w.may_leave disk) (KeepsFrom plan txns least)) outs → AllByRecursion (λ (disk : D). Each (w.may_leave disk) (KeepsFrom plan txns least)) outs_now
  outs_covered plan txns least [] [] grew kept = tt
  outs_covered plan txns least [] (n ∷ outs_now) grew kept = absurd grew
  outs_covered plan txns least (o ∷ outs) [] grew kept = absurd grew
  outs_covered plan txns least (o ∷ outs) (n ∷ outs_now) grew kept =
      (each_behind w.may_leave w.moment w.left_since counts_now o n (KeepsFrom plan txns least) (grew.0 least kept.0), outs_covered plan txns least outs outs_now grew.1 kept.1)

  -- a task that only stood keeps what it kept
  pub task_stood : IsTrue w.tells → (plan : OutputPlan) (logs : List NodeLog) (outs_now : List D) (task task_now : D)
      → Each (w.may_leave task) (λ (image : Image). (point : Option Checkpoint) × KeepsPoint plan logs point image)
      → IsTaskKept w.tells w.seen w.may_leave w.moment w.left_since w.faults task task_now
      → AllByRecursion (λ (disk : D). Each (w.may_leave disk) (KeepsFrom plan (planned_transactions plan logs) 0)) outs_now
      → TaskGoesOn w plan logs (length (planned_transactions plan logs)) outs_now task task_now
  task_stood told plan logs outs_now task task_now each kept covered = record {
    most = 0;
    below = omega arith;
    kept = record {
      every_moment =
          weaker w.moment w.left_since task task_now (w.may_leave task) (KeepsTask plan logs (w.may_leave task) 0) (kept.any_moment told)
          (λ image leaves. let seen = each image leaves in record { point = seen.0; keeps = seen.1; covered = kept_on image leaves refl });
      covered = covered;
    };
  }

  -- a task that stood and then went on
  pub task_stood_before : IsTrue w.tells → (plan : OutputPlan) (logs : List NodeLog) (count more : ℕ) (outs_now : List D) (task mid task_now : D) → count ≤ more
      → Each (w.may_leave task) (λ (image : Image). (point : Option Checkpoint) × KeepsPoint plan logs point image)
      → IsTaskKept w.tells w.seen w.may_leave w.moment w.left_since w.faults task mid → TaskGoesOn w plan logs count outs_now mid task_now → TaskGoesOn w plan logs more outs_now task task_now
  task_stood_before told plan logs count more outs_now task mid task_now few each kept on =
      let stood = kept.any_moment told in
      let among = each_behind w.may_leave w.moment w.left_since counts_now task mid (w.may_leave task) stood in
      record {
        most = on.most;
        below = let below = on.below in omega (arith, few, below);
        kept = record {
          every_moment =
              joined w.moment w.left_since task mid task_now (w.may_leave task) (KeepsTask plan logs (w.may_leave mid) on.most) (KeepsTask plan logs (w.may_leave task) on.most) stood on.kept.every_moment
              (λ image leaves. let seen = each image leaves in record { point = seen.0; keeps = seen.1; covered = kept_on image leaves refl })
              (λ image k. record { point = k.point; keeps = k.keeps; covered = from_start (w.may_leave mid) (w.may_leave task) among on.most k.point image k.covered });
          covered = on.kept.covered;
        };
      }

  -- what the images of the task keep, they keep over the opening
  pub task_kept_on : IsTrue w.tells → (plan : OutputPlan) (logs : List NodeLog) (task mid : D) → Each (w.may_leave task) (λ (image : Image). (point : Option Checkpoint) × KeepsPoint plan logs point image)
      → IsTaskKept w.tells w.seen w.may_leave w.moment w.left_since w.faults task mid → Each (w.may_leave mid) (λ (image : Image). (point : Option Checkpoint) × KeepsPoint plan logs point image)
  task_kept_on told plan logs task mid each kept = λ image leaves. each image (each_behind w.may_leave w.moment w.left_since counts_now task mid (w.may_leave task) (kept.any_moment told) image leaves)

-- an opening alone keeps the headline
pub opening_keeps_headline : {S D : Type 0} (s : SourceWords S) (w : DiskWords D) → ((disk : D) → IsTrue w.tells → w.may_leave disk (w.seen disk))
    → ((disk : D) (t : ℕ) (image : Image) → IsTrue w.tells → t ≤ w.moment disk → w.may_leave disk image → w.left_since disk t image) → KeptIsOpened → OpeningKeepsHeadline s w
opening_keeps_headline {S} {D} s w seen_may_stay counts_now kept_is_opened = λ plan logs nodes nodes_now outs outs_now task task_now result outcome sources_tell told over opened ending.
    let stays : (disk : D) → w.may_leave disk (w.seen disk) = λ disk. seen_may_stay disk told in
    let counts : (disk : D) (t : ℕ) (image : Image) → t ≤ w.moment disk → w.may_leave disk image → w.left_since disk t image = λ disk t image le leaves. counts_now disk t image told le leaves in
    let txns = planned_transactions plan logs in
    let grew = outs_grew w stays counts told plan txns outs outs_now opened.outs_kept in
    let may =
    may_answer result outcome
    (kept_is_opened plan (map s.held nodes) logs (map w.seen outs) (w.seen task) result (opening_of_kept w stays counts s plan logs nodes nodes_now outs outs_now task task_now result over opened)) ending in
    record {
      outs_grow = grew;
      task_goes_on = task_stood w stays counts told plan logs outs_now task task_now over.task_kept opened.task_kept (outs_covered w stays counts plan txns 0 outs outs_now grew over.outs_kept);
      published = λ all. absurd (answer_publishes_less outcome may all);
      last = λ all. absurd (answer_reads_less outcome may all);
      ends = answer_ends plan logs (map s.held nodes) outcome may;
      resumed = λ point has reached.
          let long = points_long plan logs (map s.held nodes) point over.whole (task_point w stays counts plan logs task point over.task_kept has) in
          nothing_asked s point.nodes nodes nodes_now (long ∙ length-map nodes s.held) opened.nodes_kept;
    }
