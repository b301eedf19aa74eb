-- What an opening answers, by what the disks and the sources hold.
use Rattle.std.specs.Prelude.{◌≡◌, ◌↔◌, ℕ, ◌-◌, List, length, map, Option, Some, None, IfSome, Result, Ok, Err, ⊤}
use Rattle.std.specs.List.{AllZip, AllByRecursion}
use Rattle.cdc_outside.specs.Disk.{Image}
use Rattle.cdc_dumper.specs.Opening.{IsFound}
use Rattle.cdc_dumper.specs.State.{DumperState}
use Rattle.cdc_records.specs.declared.checkpoint.Checkpoint.{Checkpoint}
use Rattle.cdc_records.specs.declared.front.Front.{Front}
use Rattle.cdc_records.specs.Checkpoint.{HasPoint}
use Rattle.cdc_task.specs.declared.fault.TaskFault.{TaskFault}
use Rattle.cdc_task.specs.declared.fault.TaskFault.TheVariants as of_task
use Rattle.cdc_task.specs.declared.start.Start.{Start}
use Rattle.cdc_task.specs.declared.start.Start.TheVariants.{First, Cut}
use Rattle.cdc_task.specs.Task.{FitsPlan, GoesOnFrom, IsLoaded}
use Rattle.cdc_opening.specs.declared.opened.Opened.{Opened}
use Rattle.cdc_opening.specs.declared.outcome.Outcome.{Outcome}
use Rattle.cdc_opening.specs.declared.outcome.Outcome.TheVariants.{Done, Disk, TaskDisk, Read, Memory, TooLarge, Node, Open, Task, Behind, Differs, Key}
use Rattle.cdc_opening.specs.OpenOuts.{CanOpen, OpenBefore, IsOutRefused}
use Rattle.cdc_opening.specs.OpenSources.{NoneEndsBefore, IsLogBehind}

-- how many transactions each of these has published
abbrev pub published_counts : List DumperState → List ℕ
published_counts dumpers = map (λ (dumper : DumperState). dumper.published.count) dumpers

-- the checkpoint from which a pass goes on, if it does
abbrev pub used_point : Start → Option Checkpoint → Option Checkpoint
used_point First kept = None
used_point Cut kept = kept

-- the outputs' Fronts and the task's checkpoint make a pass go on from this checkpoint, or from none
pub record GoesOnBy (images : List Image) (task : Image) (used : Option Checkpoint) : Type 0 where
  pub fronts : List Front
  pub found : AllZip IsFound images fronts
  pub kept : Option Checkpoint
  pub has : HasPoint task kept
  pub start : Start
  pub starts : (start ≡ Cut) ↔ GoesOnFrom kept (map (λ (front : Front). front.count) fronts)
  pub used_is : used ≡ used_point start kept

-- the task can be opened for so many nodes and this rotation size
pub record TaskOpens (image : Image) (nodes rotation : ℕ) : Type 0 where
  pub kept : Option Checkpoint
  pub has : HasPoint image kept
  pub fits : FitsPlan nodes rotation kept

-- why the task is refused, the disk's failures and want of memory aside
abbrev pub IsTaskRefused : Image → ℕ → ℕ → TaskFault → Type 0
IsTaskRefused image nodes rotation of_task.DiskFault = ⊥
IsTaskRefused image nodes rotation (of_task.BadCell slot) = IsLoaded image nodes rotation (Err (of_task.BadCell slot))
IsTaskRefused image nodes rotation (of_task.NodeCount kept given) = IsLoaded image nodes rotation (Err (of_task.NodeCount kept given))
IsTaskRefused image nodes rotation (of_task.Rotation kept given) = IsLoaded image nodes rotation (Err (of_task.Rotation kept given))
IsTaskRefused image nodes rotation of_task.Memory = ⊥

-- what an opening answers by what reads of the outputs and of the task give: the first refusal in the order of the outputs,
-- the task, the sources. A failure of a device is told by its count, want of memory by nothing
abbrev pub AnswersDisks : List Image → Image → ℕ → ℕ → Result Opened Outcome → Type 0
AnswersDisks images task nodes rotation (Ok opened) =
    AllZip (λ (image : Image) (dumper : DumperState). IsFound image dumper.published) images opened.dumpers.items
    × HasPoint task opened.kept × FitsPlan nodes rotation opened.kept
AnswersDisks images task nodes rotation (Err Done) = ⊥
AnswersDisks images task nodes rotation (Err (Disk out)) = OpenBefore images out
AnswersDisks images task nodes rotation (Err TaskDisk) = AllByRecursion CanOpen images
AnswersDisks images task nodes rotation (Err (Read node)) = AllByRecursion CanOpen images × TaskOpens task nodes rotation
AnswersDisks images task nodes rotation (Err Memory) = ⊤
AnswersDisks images task nodes rotation (Err (TooLarge number bytes)) = ⊥
AnswersDisks images task nodes rotation (Err (Node node place fault)) = ⊥
AnswersDisks images task nodes rotation (Err (Open out fault)) = IsOutRefused images out fault
AnswersDisks images task nodes rotation (Err (Task fault)) = AllByRecursion CanOpen images × IsTaskRefused task nodes rotation fault
AnswersDisks images task nodes rotation (Err (Behind node kept given)) = AllByRecursion CanOpen images × TaskOpens task nodes rotation
AnswersDisks images task nodes rotation (Err (Differs out kept given)) = ⊥
AnswersDisks images task nodes rotation (Err (Key out kept given)) = ⊥

-- what an opening answers by what the sources hold: a log ends before the place from which it is read on, and it is the
-- first one; no log does where the opening is done
abbrev pub AnswersLogs : List Image → Image → List (List (List ℕ)) → Result Opened Outcome → Type 0
AnswersLogs images task logs (Ok opened) = IfSome (used_point opened.start opened.kept) (λ (point : Checkpoint). NoneEndsBefore (length logs) logs point.nodes)
AnswersLogs images task logs (Err Done) = ⊤
AnswersLogs images task logs (Err (Disk out)) = ⊤
AnswersLogs images task logs (Err TaskDisk) = ⊤
AnswersLogs images task logs (Err (Read node)) =
    (used : Option Checkpoint) × GoesOnBy images task used × IfSome used (λ (point : Checkpoint). NoneEndsBefore (node - 1) logs point.nodes)
AnswersLogs images task logs (Err Memory) = ⊤
AnswersLogs images task logs (Err (TooLarge number bytes)) = ⊤
AnswersLogs images task logs (Err (Node node place fault)) = ⊤
AnswersLogs images task logs (Err (Open out fault)) = ⊤
AnswersLogs images task logs (Err (Task fault)) = ⊤
AnswersLogs images task logs (Err (Behind node kept given)) =
    (point : Checkpoint) × GoesOnBy images task (Some point) × IsLogBehind logs point.nodes node kept given
AnswersLogs images task logs (Err (Differs out kept given)) = ⊤
AnswersLogs images task logs (Err (Key out kept given)) = ⊤
