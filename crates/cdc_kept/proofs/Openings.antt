-- An opening refuses no kept disk.
use Rattle.std.proofs.Common.{◌≡◌, ◌≤◌, inl, inr, ℕ, zero, suc, ◌-◌, List, [], ◌∷◌, length, slice_get, Option, Some, None, IfSome, MatchOption, Result, Ok, Err, IfErr, sym, subst, ◌∙◌, arith}
use Rattle.std.specs.List.{AllZip, AllByRecursion}
use Rattle.cdc_base.specs.declared.place.Place.{Place}
use Rattle.cdc_outside.specs.Disk.{Image}
use Rattle.cdc_outside.specs.declared.disk_file.DiskFile.{DiskFile}
use Rattle.cdc_outside.specs.declared.disk_file.DiskFile.TheVariants.{Log}
use Rattle.cdc_cell.specs.Record.{CellRecord}
use Rattle.cdc_model.specs.declared.node_log.NodeLog.{NodeLog}
use Rattle.cdc_model.specs.Records.{Transaction}
use Rattle.cdc_model.specs.Growth.{IsReadWhole}
use Rattle.cdc_records.specs.declared.checkpoint.Checkpoint.{Checkpoint}
use Rattle.cdc_records.specs.declared.front.Front.{Front}
use Rattle.cdc_records.specs.Checkpoint.{IsKeptPoint, HasPoint, ImageHasOnePoint}
use Rattle.cdc_records.specs.Front.{no_front, IsFrontRecord, HasFront}
use Rattle.cdc_dumper.specs.declared.fault.OpenFault.{OpenFault}
use Rattle.cdc_dumper.specs.declared.fault.OpenFault.TheVariants.{DiskFault, BadCell, BadFront}
use Rattle.cdc_dumper.specs.Opening.{IsRefused, IsFound}
use Rattle.cdc_recovery.specs.Outputs.{OutputPlan, planned_transactions, KeepsFrom}
use Rattle.cdc_recovery.specs.Checkpoints.{IsRecoverablePoint, KeepsPoint}
use Rattle.cdc_recovery.specs.Laws.{ImageHasOneFront}
use Rattle.cdc_task.specs.declared.fault.TaskFault.{TaskFault}
use Rattle.cdc_task.specs.declared.fault.TaskFault.TheVariants as of_task
use Rattle.cdc_task.specs.declared.start.Start.{Start}
use Rattle.cdc_task.specs.declared.start.Start.TheVariants.{First, Cut}
use Rattle.cdc_task.specs.Task.{IsBadTask, bad, no_point}
use Rattle.cdc_opening.specs.declared.opened.Opened.{Opened}
use Rattle.cdc_opening.specs.declared.outcome.Outcome.{Outcome}
use Rattle.cdc_opening.specs.declared.outcome.Outcome.TheVariants.{Done, Disk, TaskDisk, Read, Memory, TooLarge, Node, Open, Task, Behind, Differs, Key}
use Rattle.cdc_opening.specs.Answers.{used_point, GoesOnBy, IsTaskRefused, AnswersDisks, AnswersLogs}
use Rattle.cdc_opening.specs.OpenOuts.{IsRefusal, IsOutRefused}
use Rattle.cdc_opening.specs.OpenSources.{IsLogBehind}
use Rattle.cdc_kept.specs.Kept.{AreKeptBy, MayAnswer}
use Rattle.cdc_kept.specs.Laws.{KeptIsOpened}
use Rattle.cdc_kept.proofs.Found.{kept_is_found}
use Rattle.cdc_kept.proofs.Points.{none_ends_before, as_many_points, as_many_logs}

-- ---- outputs

-- the slot of an image that has a Front is no reason to refuse it
no_refused_slot : (image : Image) (f : Front) (slot : DiskFile) → HasFront image f → IsRefused image slot → ⊥
no_refused_slot image f slot has (inl is) = let here = has.cell in cc
no_refused_slot image f slot has (inr other) =
    other.no_front f (subst (λ (r : Option CellRecord). MatchOption r (f ≡ no_front) (λ found. IsFrontRecord found f)) other.kept has.kept)

-- an output that can be opened isn't refused
no_refusal : ImageHasOneFront → (image : Image) (f : Front) (fault : OpenFault) → IsFound image f → IsRefusal image fault → ⊥
no_refusal one image f DiskFault found refused = refused
no_refusal one image f (BadCell slot) found refused = no_refused_slot image f slot found.has refused
no_refusal one image f (BadFront kept there) found refused =
    let same : f ≡ refused.front = one image f refused.front found.has refused.has in
    let whole : refused.front.length ≤ length (image (Log refused.front.file)) =
    subst (λ (g : Front). g.length ≤ length (image (Log g.file))) same found.whole in
    omega (arith, whole, refused.said, refused.there, refused.short)

-- what all have, the one at a place has
at_place : {A : Type 0} (P : A → Type 0) (xs : List A) (k : ℕ) (x : A) → AllByRecursion P xs → slice_get xs k ≡ Some x → P x
at_place P [] k x all is = absurd (let e = is in cc)
at_place P (first ∷ xs) zero x (has, all) is = let same : first ≡ x = cc in subst P same has
at_place P (first ∷ xs) (suc k) x (has, all) is = at_place P xs k x all is

-- no kept output is refused
no_output_refused : ImageHasOneFront → (plan : OutputPlan) (txns : List Transaction) (outs : List Image) (out : ℕ) (fault : OpenFault)
    → AllByRecursion (KeepsFrom plan txns 0) outs → IsOutRefused outs out fault → ⊥
no_output_refused one plan txns outs out fault kept refused =
    let keeps = at_place (KeepsFrom plan txns 0) outs (out - 1) refused.image kept refused.there in
    no_refusal one refused.image keeps.keeps.front fault (kept_is_found plan txns 0 refused.image keeps) refused.refused

-- ---- the task

-- the slot of an image that has a checkpoint, or none, is no reason to refuse it
no_bad_task : (image : Image) (point : Option Checkpoint) (slot : DiskFile) → HasPoint image point → IsBadTask image slot → ⊥
no_bad_task image point slot has (bad is) = let here = has.cell in cc
no_bad_task image point slot has (no_point cell r kept here none) =
    by point (subst (λ (record_is : Option CellRecord). IsKeptPoint record_is point) kept has.kept)
  where
    by : (p : Option Checkpoint) → IsKeptPoint (Some r) p → ⊥
    by None is = is
    by (Some p) is = none p is

-- the checkpoint of a kept task is recoverable
pub point_is_recoverable : ImageHasOnePoint → (plan : OutputPlan) (logs : List NodeLog) (image : Image) (point : Option Checkpoint) (p : Checkpoint)
    → KeepsPoint plan logs point image → HasPoint image (Some p) → IsRecoverablePoint plan logs p
point_is_recoverable one plan logs image point p keeps has =
    subst (λ (o : Option Checkpoint). IfSome o (IsRecoverablePoint plan logs)) (one image point (Some p) keeps.has has) keeps.recoverable

-- a recoverable checkpoint has as many nodes as there are
no_other_nodes : (plan : OutputPlan) (logs : List NodeLog) (nodes had given : ℕ) (p : Checkpoint) → nodes ≡ length logs → IsRecoverablePoint plan logs p
    → had ≡ length p.nodes → given ≡ nodes → (had ≡ given → ⊥) → ⊥
no_other_nodes plan logs nodes had given p many is had_is given_is differ =
    let points : length p.nodes ≡ length logs = as_many_points p.last 1 logs p.nodes is.sound.points in
    differ (had_is ∙ (points ∙ (sym many ∙ sym given_is)))

-- a kept task isn't refused
no_task_refused : ImageHasOnePoint → (plan : OutputPlan) (logs : List NodeLog) (image : Image) (point : Option Checkpoint) (nodes : ℕ) (fault : TaskFault)
    → nodes ≡ length logs → KeepsPoint plan logs point image → IsTaskRefused image nodes plan.rotation fault → ⊥
no_task_refused one plan logs image point nodes of_task.DiskFault many keeps refused = refused
no_task_refused one plan logs image point nodes (of_task.BadCell slot) many keeps refused = no_bad_task image point slot keeps.has refused
no_task_refused one plan logs image point nodes (of_task.NodeCount had given) many keeps refused =
    let has : HasPoint image (Some refused.so.point) = subst (HasPoint image) refused.so.is refused.has in
    no_other_nodes plan logs nodes had given refused.so.point many (point_is_recoverable one plan logs image point refused.so.point keeps has)
    refused.so.had_is refused.so.given_is refused.so.differ
no_task_refused one plan logs image point nodes (of_task.Rotation had given) many keeps refused =
    let has : HasPoint image (Some refused.so.point) = subst (HasPoint image) refused.so.is refused.has in
    let is : IsRecoverablePoint plan logs refused.so.point = point_is_recoverable one plan logs image point refused.so.point keeps has in
    refused.so.differ (is.rotation had refused.so.had_is ∙ sym refused.so.given_is)
no_task_refused one plan logs image point nodes of_task.Memory many keeps refused = refused

-- ---- the logs

-- a checkpoint that is used is the kept one
used_is_kept : (image : Image) (start : Start) (kept : Option Checkpoint) (p : Checkpoint) → HasPoint image kept → Some p ≡ used_point start kept → HasPoint image (Some p)
used_is_kept image First kept p has is = absurd (let e = is in cc)
used_is_kept image Cut kept p has is = subst (HasPoint image) (sym is) has

-- no log ends before the point from which it is read on
no_log_behind : ImageHasOnePoint → (plan : OutputPlan) (nodes : List (List (List ℕ))) (logs : List NodeLog) (outs : List Image) (task : Image) (point : Option Checkpoint) (p : Checkpoint)
    → AllZip IsReadWhole nodes logs → KeepsPoint plan logs point task → GoesOnBy outs task (Some p)
    → (number : ℕ) (place end : Place) → IsLogBehind nodes p.nodes number place end → ⊥
no_log_behind one plan nodes logs outs task point p whole keeps by number place end behind =
    let is : IsRecoverablePoint plan logs p = point_is_recoverable one plan logs task point p keeps (used_is_kept task by.start by.kept p by.has by.used_is) in
    none_ends_before p.last 1 nodes logs p.nodes (number - 1) behind.files behind.cut whole is.sound.points behind.log behind.point behind.behind

-- ---- all answers

module _ (one_front : ImageHasOneFront) (one_point : ImageHasOnePoint) (plan : OutputPlan) (nodes : List (List (List ℕ))) (logs : List NodeLog) (outs : List Image) (task : Image)
    (whole : AllZip IsReadWhole nodes logs) (kept : AreKeptBy plan logs outs task) where
  -- each cause that isn't a device's failure or want of memory is refuted
  may_answer : (outcome : Outcome) → AnswersDisks outs task (length nodes) plan.rotation (Err outcome) → AnswersLogs outs task nodes (Err outcome) → MayAnswer outcome
  may_answer Done disks sources = disks
  may_answer (Disk out) disks sources = tt
  may_answer TaskDisk disks sources = tt
  may_answer (Read node) disks sources = tt
  may_answer Memory disks sources = tt
  may_answer (TooLarge number bytes) disks sources = disks
  may_answer (Node node place fault) disks sources = disks
  may_answer (Open out fault) disks sources = no_output_refused one_front plan (planned_transactions plan logs) outs out fault kept.outs_kept disks
  may_answer (Task fault) disks sources =
      no_task_refused one_point plan logs task kept.point (length nodes) fault (as_many_logs nodes logs whole) kept.task_kept disks.1
  may_answer (Behind node place end) disks (point, by, behind) =
      no_log_behind one_point plan nodes logs outs task kept.point point whole kept.task_kept by node place end behind
  may_answer (Differs out own given) disks sources = disks
  may_answer (Key out own given) disks sources = disks

  -- also where the opening is done
  by_result : (result : Result Opened Outcome) → AnswersDisks outs task (length nodes) plan.rotation result → AnswersLogs outs task nodes result → IfErr result MayAnswer
  by_result (Ok opened) disks sources = tt
  by_result (Err outcome) disks sources = may_answer outcome disks sources

-- kept disks are opened
pub kept_is_opened : ImageHasOneFront → ImageHasOnePoint → KeptIsOpened
kept_is_opened one_front one_point plan nodes logs outs task result is =
    by_result one_front one_point plan nodes logs outs task is.whole is.kept result is.disks is.sources
