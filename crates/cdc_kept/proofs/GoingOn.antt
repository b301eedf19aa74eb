-- A pass that was opened over kept disks goes on soundly.
use Rattle.std.proofs.Common.{◌≡◌, ◌↔◌, ◌≤◌, ℕ, zero, suc, List, [], ◌∷◌, All, Option, Some, None, refl, arith}
use Rattle.std.specs.List.{AllZip, AllByRecursion}
use Rattle.cdc_outside.specs.Disk.{Image}
use Rattle.cdc_model.specs.declared.node_log.NodeLog.{NodeLog}
use Rattle.cdc_model.specs.Growth.{IsReadWhole}
use Rattle.cdc_model.specs.Restart.{StartIsRestartPoint}
use Rattle.cdc_base.specs.Key.{first_key}
use Rattle.cdc_dumper.specs.State.{DumperState}
use Rattle.cdc_records.specs.declared.checkpoint.Checkpoint.{Checkpoint}
use Rattle.cdc_records.specs.Checkpoint.{HasPoint, ImageHasOnePoint}
use Rattle.cdc_recovery.specs.Outputs.{OutputPlan}
use Rattle.cdc_recovery.specs.Checkpoints.{IsRecoverablePoint}
use Rattle.cdc_task.specs.declared.start.Start.{Start}
use Rattle.cdc_task.specs.declared.start.Start.TheVariants.{First, Cut}
use Rattle.cdc_task.specs.Task.{GoesOnFrom}
use Rattle.cdc_opening.specs.Answers.{published_counts, used_point}
use Rattle.cdc_kept.specs.Kept.{AreKeptBy, start_of_pass, GoesOnSoundly}
use Rattle.cdc_kept.specs.Laws.{OpenedGoesOn}
use Rattle.cdc_kept.proofs.Points.{as_many_points, starts_are_points}
use Rattle.cdc_kept.proofs.Openings.{point_is_recoverable}

-- no output has fewer transactions than none
all_reach_nothing : (dumpers : List DumperState) → AllByRecursion (λ (dumper : DumperState). 0 ≤ dumper.published.count) dumpers
all_reach_nothing [] = tt
all_reach_nothing (dumper ∷ dumpers) = (omega arith, all_reach_nothing dumpers)

-- what all counts have reached, each output has
all_reach : (count : ℕ) (dumpers : List DumperState) → All (λ (reached : ℕ). count ≤ reached) (published_counts dumpers)
    → AllByRecursion (λ (dumper : DumperState). count ≤ dumper.published.count) dumpers
all_reach count [] all = tt
all_reach count (dumper ∷ dumpers) all = (all zero 0 (omega arith), all_reach count dumpers (λ k d within. all (suc k) d (omega (arith, within))))

-- without a checkpoint a pass begins at the starts of all logs
goes_on_from_start : StartIsRestartPoint → (plan : OutputPlan) (nodes : List (List (List ℕ))) (logs : List NodeLog) (dumpers : List DumperState)
    → AllZip IsReadWhole nodes logs → GoesOnSoundly plan logs (start_of_pass nodes None) dumpers
goes_on_from_start law plan nodes logs dumpers whole =
    let points = starts_are_points law first_key 1 nodes logs whole in
    record {
      behind = record { within = omega arith; key = refl; restart = points };
      layout = refl;
      many = as_many_points first_key 1 logs (start_of_pass nodes None).points points;
      reached = all_reach_nothing dumpers;
    }

-- a recoverable checkpoint whose transactions each output has is one to go on from
goes_on_from_point : (plan : OutputPlan) (nodes : List (List (List ℕ))) (logs : List NodeLog) (dumpers : List DumperState) (p : Checkpoint)
    → IsRecoverablePoint plan logs p → All (λ (reached : ℕ). p.count ≤ reached) (published_counts dumpers) → GoesOnSoundly plan logs (start_of_pass nodes (Some p)) dumpers
goes_on_from_point plan nodes logs dumpers p is all = record {
  behind = record { within = is.sound.within; key = is.sound.last; restart = is.sound.points };
  layout = is.sound.layout;
  many = as_many_points p.last 1 logs p.nodes is.sound.points;
  reached = all_reach p.count dumpers all;
}

module _ (law : StartIsRestartPoint) (one : ImageHasOnePoint) (plan : OutputPlan) (nodes : List (List (List ℕ))) (logs : List NodeLog) (outs : List Image) (task : Image) (dumpers : List DumperState)
    (whole : AllZip IsReadWhole nodes logs) (kept : AreKeptBy plan logs outs task) where
  -- the kept checkpoint is one to go on from, where a pass goes on from one
  by_kept : (point : Option Checkpoint) → HasPoint task point → GoesOnFrom point (published_counts dumpers) → GoesOnSoundly plan logs (start_of_pass nodes point) dumpers
  by_kept None has all = absurd all
  by_kept (Some p) has all = goes_on_from_point plan nodes logs dumpers p (point_is_recoverable one plan logs task kept.point p kept.task_kept has) all

  -- by where the pass begins
  by_start : (start : Start) (point : Option Checkpoint) → HasPoint task point → ((start ≡ Cut) ↔ GoesOnFrom point (published_counts dumpers))
      → GoesOnSoundly plan logs (start_of_pass nodes (used_point start point)) dumpers
  by_start First point has starts = goes_on_from_start law plan nodes logs dumpers whole
  by_start Cut point has starts = by_kept point has (starts.0 refl)

-- a pass that was opened goes on soundly
pub opened_goes_on : StartIsRestartPoint → ImageHasOnePoint → OpenedGoesOn
opened_goes_on law one plan nodes logs outs task opened is starts =
    by_start law one plan nodes logs outs task opened.dumpers.items is.whole is.kept opened.start opened.kept is.disks.1 starts
