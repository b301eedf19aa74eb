-- What each part of an opening refuses is what the opening answers.
use Rattle.std.proofs.Common.{◌≡◌, ℕ, Bool, IsTrue, List, Option, Some, None, subst, Result, Err}
use Rattle.std.specs.List.{AllByRecursion}
use Rattle.cdc_outside.specs.Disk.{Image}
use Rattle.cdc_records.specs.declared.checkpoint.Checkpoint.{Checkpoint}
use Rattle.cdc_opening.specs.declared.outcome.Outcome.{Outcome}
use Rattle.cdc_opening.specs.declared.outcome.Outcome.TheVariants.{Done, Disk, TaskDisk, Read, Memory, TooLarge, Node, Open, Task, Behind, Differs, Key}
use Rattle.cdc_opening.specs.OpenOuts.{CanOpen}
use Rattle.cdc_opening.specs.OutAnswers.{IsOutsAnswer}
use Rattle.cdc_opening.specs.SourceAnswers.{AreNodesAnswer, IsSourcesAnswer}
use Rattle.cdc_opening.specs.TaskAnswers.{IsTaskAnswer, IsDisksAnswer}
use Rattle.cdc_opening.specs.Answers.{AnswersDisks, AnswersLogs, GoesOnBy, TaskOpens}

module _ (told : Bool) (images : List Image) (task : Image) (nodes rotation : ℕ) where
  pub outs_refused : (e : Outcome) → IsOutsAnswer told images e → IsDisksAnswer told images task nodes rotation e
  outs_refused Done a = absurd a
  outs_refused (Disk out) a = a
  outs_refused TaskDisk a = absurd a
  outs_refused (Read node) a = absurd a
  outs_refused Memory a = tt
  outs_refused (TooLarge number bytes) a = absurd a
  outs_refused (Node node place fault) a = absurd a
  outs_refused (Open out fault) a = a
  outs_refused (Task fault) a = absurd a
  outs_refused (Behind node kept given) a = absurd a
  outs_refused (Differs out kept given) a = absurd a
  outs_refused (Key out kept given) a = absurd a

  pub task_refused : (IsTrue told → AllByRecursion CanOpen images) → (e : Outcome) → IsTaskAnswer told task nodes rotation e → IsDisksAnswer told images task nodes rotation e
  task_refused all Done a = absurd a
  task_refused all (Disk out) a = absurd a
  task_refused all TaskDisk a = all
  task_refused all (Read node) a = absurd a
  task_refused all Memory a = tt
  task_refused all (TooLarge number bytes) a = absurd a
  task_refused all (Node node place fault) a = absurd a
  task_refused all (Open out fault) a = absurd a
  task_refused all (Task fault) a = λ is. (all is, a is)
  task_refused all (Behind node kept given) a = absurd a
  task_refused all (Differs out kept given) a = absurd a
  task_refused all (Key out kept given) a = absurd a

  pub disks_answer : (e : Outcome) → IsTrue told → IsDisksAnswer told images task nodes rotation e → AnswersDisks images task nodes rotation (Err e)
  disks_answer Done is a = absurd a
  disks_answer (Disk out) is a = a is
  disks_answer TaskDisk is a = a is
  disks_answer (Read node) is a = absurd a
  disks_answer Memory is a = tt
  disks_answer (TooLarge number bytes) is a = absurd a
  disks_answer (Node node place fault) is a = absurd a
  disks_answer (Open out fault) is a = a is
  disks_answer (Task fault) is a = a is
  disks_answer (Behind node kept given) is a = absurd a
  disks_answer (Differs out kept given) is a = absurd a
  disks_answer (Key out kept given) is a = absurd a

  pub disks_answer_logs : (logs : List (List (List ℕ))) (e : Outcome) → IsDisksAnswer told images task nodes rotation e → AnswersLogs images task logs (Err e)
  disks_answer_logs logs Done a = absurd a
  disks_answer_logs logs (Disk out) a = tt
  disks_answer_logs logs TaskDisk a = tt
  disks_answer_logs logs (Read node) a = absurd a
  disks_answer_logs logs Memory a = tt
  disks_answer_logs logs (TooLarge number bytes) a = absurd a
  disks_answer_logs logs (Node node place fault) a = absurd a
  disks_answer_logs logs (Open out fault) a = tt
  disks_answer_logs logs (Task fault) a = tt
  disks_answer_logs logs (Behind node kept given) a = absurd a
  disks_answer_logs logs (Differs out kept given) a = absurd a
  disks_answer_logs logs (Key out kept given) a = absurd a

  -- the outputs and the task don't fail by a source, nor an output by the task
  pub disks_read_nothing : {A : Type 0} (e : Outcome) (node : ℕ) → IsDisksAnswer told images task nodes rotation e → ◌≡◌ {A = Result A Outcome} (Err e) (Err (Read node)) → ⊥
  disks_read_nothing e node a is = subst (λ (o : Outcome). IsDisksAnswer told images task nodes rotation o) (let same : e ≡ Read node = cc in same) a

  pub outs_fail_no_task : {A : Type 0} (e : Outcome) → IsOutsAnswer told images e → ◌≡◌ {A = Result A Outcome} (Err e) (Err TaskDisk) → ⊥
  outs_fail_no_task e a is = subst (λ (o : Outcome). IsOutsAnswer told images o) (let same : e ≡ TaskDisk = cc in same) a

  pub task_fails_no_out : {A : Type 0} (e : Outcome) (out : ℕ) → IsTaskAnswer told task nodes rotation e → ◌≡◌ {A = Result A Outcome} (Err e) (Err (Disk out)) → ⊥
  task_fails_no_out e out a is = subst (λ (o : Outcome). IsTaskAnswer told task nodes rotation o) (let same : e ≡ Disk out = cc in same) a

module _ (told : Bool) (images : List Image) (task : Image) (nodes rotation : ℕ) (logs : List (List (List ℕ))) where
  points_answer : (all : AllByRecursion CanOpen images) (opens : TaskOpens task nodes rotation) (point : Checkpoint) (e : Outcome) → AreNodesAnswer told logs point.nodes e → AnswersDisks images task nodes rotation (Err e)
  points_answer all opens point Done a = absurd a
  points_answer all opens point (Disk out) a = absurd a
  points_answer all opens point TaskDisk a = absurd a
  points_answer all opens point (Read node) a = (all, opens)
  points_answer all opens point Memory a = absurd a
  points_answer all opens point (TooLarge number bytes) a = absurd a
  points_answer all opens point (Node node place fault) a = absurd a
  points_answer all opens point (Open out fault) a = absurd a
  points_answer all opens point (Task fault) a = absurd a
  points_answer all opens point (Behind node kept given) a = (all, opens)
  points_answer all opens point (Differs out kept given) a = absurd a
  points_answer all opens point (Key out kept given) a = absurd a

  pub sources_answer : (all : AllByRecursion CanOpen images) (opens : TaskOpens task nodes rotation) (used : Option Checkpoint) (e : Outcome) → IsSourcesAnswer told logs used e → AnswersDisks images task nodes rotation (Err e)
  sources_answer all opens (Some point) e a = points_answer all opens point e a
  sources_answer all opens None Done a = absurd a
  sources_answer all opens None (Disk out) a = absurd a
  sources_answer all opens None TaskDisk a = absurd a
  sources_answer all opens None (Read node) a = (all, opens)
  sources_answer all opens None Memory a = absurd a
  sources_answer all opens None (TooLarge number bytes) a = absurd a
  sources_answer all opens None (Node node place fault) a = absurd a
  sources_answer all opens None (Open out fault) a = absurd a
  sources_answer all opens None (Task fault) a = absurd a
  sources_answer all opens None (Behind node kept given) a = absurd a
  sources_answer all opens None (Differs out kept given) a = absurd a
  sources_answer all opens None (Key out kept given) a = absurd a

  points_answer_logs : IsTrue told → (point : Checkpoint) → GoesOnBy images task (Some point) → (e : Outcome) → AreNodesAnswer told logs point.nodes e → AnswersLogs images task logs (Err e)
  points_answer_logs is point goes Done a = absurd a
  points_answer_logs is point goes (Disk out) a = absurd a
  points_answer_logs is point goes TaskDisk a = absurd a
  points_answer_logs is point goes (Read node) a = (Some point, goes, a is)
  points_answer_logs is point goes Memory a = absurd a
  points_answer_logs is point goes (TooLarge number bytes) a = absurd a
  points_answer_logs is point goes (Node node place fault) a = absurd a
  points_answer_logs is point goes (Open out fault) a = absurd a
  points_answer_logs is point goes (Task fault) a = absurd a
  points_answer_logs is point goes (Behind node kept given) a = (point, goes, a is)
  points_answer_logs is point goes (Differs out kept given) a = absurd a
  points_answer_logs is point goes (Key out kept given) a = absurd a

  pub sources_answer_logs : IsTrue told → (used : Option Checkpoint) → GoesOnBy images task used → (e : Outcome) → IsSourcesAnswer told logs used e → AnswersLogs images task logs (Err e)
  sources_answer_logs is (Some point) goes e a = points_answer_logs is point goes e a
  sources_answer_logs is None goes Done a = absurd a
  sources_answer_logs is None goes (Disk out) a = absurd a
  sources_answer_logs is None goes TaskDisk a = absurd a
  sources_answer_logs is None goes (Read node) a = (None, goes, tt)
  sources_answer_logs is None goes Memory a = absurd a
  sources_answer_logs is None goes (TooLarge number bytes) a = absurd a
  sources_answer_logs is None goes (Node node place fault) a = absurd a
  sources_answer_logs is None goes (Open out fault) a = absurd a
  sources_answer_logs is None goes (Task fault) a = absurd a
  sources_answer_logs is None goes (Behind node kept given) a = absurd a
  sources_answer_logs is None goes (Differs out kept given) a = absurd a
  sources_answer_logs is None goes (Key out kept given) a = absurd a

  -- sources don't fail by a disk
  pub sources_fail_no_out : {A : Type 0} (used : Option Checkpoint) (e : Outcome) (out : ℕ) → IsSourcesAnswer told logs used e → ◌≡◌ {A = Result A Outcome} (Err e) (Err (Disk out)) → ⊥
  sources_fail_no_out (Some point) e out a is = subst (λ (o : Outcome). AreNodesAnswer told logs point.nodes o) (let same : e ≡ Disk out = cc in same) a
  sources_fail_no_out None e out a is = subst (λ (o : Outcome). IsSourcesAnswer told logs None o) (let same : e ≡ Disk out = cc in same) a

  pub sources_fail_no_task : {A : Type 0} (used : Option Checkpoint) (e : Outcome) → IsSourcesAnswer told logs used e → ◌≡◌ {A = Result A Outcome} (Err e) (Err TaskDisk) → ⊥
  sources_fail_no_task (Some point) e a is = subst (λ (o : Outcome). AreNodesAnswer told logs point.nodes o) (let same : e ≡ TaskDisk = cc in same) a
  sources_fail_no_task None e a is = subst (λ (o : Outcome). IsSourcesAnswer told logs None o) (let same : e ≡ TaskDisk = cc in same) a
