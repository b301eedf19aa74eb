-- Kept disks, and from where a pass over them goes on.
use Rattle.std.specs.Prelude.{◌≡◌, ◌≤◌, ℕ, List, length, map, take, Option, Some, None}
use Rattle.std.specs.List.{AllByRecursion}
use Rattle.cdc_base.specs.declared.key.Key.{Key}
use Rattle.cdc_base.specs.Key.{first_key}
use Rattle.cdc_outside.specs.Disk.{Image}
use Rattle.cdc_model.specs.declared.layout.Layout.{Layout}
use Rattle.cdc_model.specs.declared.node_log.NodeLog.{NodeLog}
use Rattle.cdc_model.specs.Output.{no_output, layout_in, layout_of}
use Rattle.cdc_model.specs.Restart.{RestartPoint, first_point}
use Rattle.cdc_records.specs.declared.checkpoint.Checkpoint.{Checkpoint}
use Rattle.cdc_recovery.specs.Outputs.{OutputPlan, planned_transactions, KeepsFrom}
use Rattle.cdc_recovery.specs.Checkpoints.{KeepsPoint}
use Rattle.cdc_content.specs.Reading.{GoesOnBehind}
use Rattle.cdc_dumper.specs.State.{DumperState}
use Rattle.cdc_opening.specs.declared.opened.Opened.{Opened}
use Rattle.cdc_opening.specs.declared.outcome.Outcome.{Outcome}
use Rattle.cdc_opening.specs.declared.outcome.Outcome.TheVariants.{Done, Disk, TaskDisk, Read, Memory, TooLarge, Node, Open, Task, Behind, Differs, Key as OtherKey}
use Rattle.cdc_opening.specs.Answers.{used_point}

-- what reads of the outputs give is recoverable for these logs, and so is what reads of the task give
pub record AreKeptBy (plan : OutputPlan) (logs : List NodeLog) (outs : List Image) (task : Image) : Type 0 where
  pub outs_kept : AllByRecursion (KeepsFrom plan (planned_transactions plan logs) 0) outs
  pub point : Option Checkpoint
  pub task_kept : KeepsPoint plan logs point task

-- an answer that kept disks and grown logs may have: a device that failed, or want of memory
abbrev pub MayAnswer : Outcome → Type 0
MayAnswer Done = ⊥
MayAnswer (Disk out) = Unit {0}
MayAnswer TaskDisk = Unit {0}
MayAnswer (Read node) = Unit {0}
MayAnswer Memory = Unit {0}
MayAnswer (TooLarge number bytes) = ⊥
MayAnswer (Node node place fault) = ⊥
MayAnswer (Open out fault) = ⊥
MayAnswer (Task fault) = ⊥
MayAnswer (Behind node kept given) = ⊥
MayAnswer (Differs out kept given) = ⊥
MayAnswer (OtherKey out kept given) = ⊥

-- behind how many transactions a pass begins, the key of the last of them, where an output of them stands, and from where each
-- node is read
pub record PassStart : Type 0 where
  pub count : ℕ
  pub last : Key
  pub before : Layout
  pub points : List RestartPoint

-- the start of a pass over so many nodes that goes on from this checkpoint, or from none
abbrev pub start_of_pass : {N : Type 0} → List N → Option Checkpoint → PassStart
start_of_pass nodes None = record { count = 0; last = first_key; before = layout_in no_output; points = map (λ _. first_point) nodes }
start_of_pass nodes (Some point) = record { count = point.count; last = point.last; before = point.layout; points = point.nodes }

-- of one that was opened
abbrev pub opened_start : {N : Type 0} → List N → Opened → PassStart
opened_start nodes opened = start_of_pass nodes (used_point opened.start opened.kept)

-- a pass begins at restart points of the logs for the key of the transaction of its count, which each output has
pub record GoesOnSoundly (plan : OutputPlan) (logs : List NodeLog) (start : PassStart) (dumpers : List DumperState) : Type 0 where
  pub behind : GoesOnBehind plan logs start.count start.last start.points
  pub layout : start.before ≡ layout_of plan.rules plan.rotation (take start.count (planned_transactions plan logs))
  pub many : length start.points ≡ length logs
  pub reached : AllByRecursion (λ (dumper : DumperState). start.count ≤ dumper.published.count) dumpers
