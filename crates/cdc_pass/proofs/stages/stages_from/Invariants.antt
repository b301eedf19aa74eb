-- What is made for the points that are left completes what was made.
use Rattle.std.proofs.Common.{◌+◌, ◌≤◌, ◌<◌, ◌^◌, List, ◌++◌, length}
use Rattle.std.specs.Prelude.{vec_capacity}
use Rattle.std.specs.List.{AllByRecursion}
use Rattle.cdc_model.specs.Restart.{RestartPoint}
use Rattle.cdc_node_stage.specs.declared.stage.NodeStage.{NodeStage}
use Rattle.cdc_records.specs.Checkpoint.{IsCut}
use Rattle.cdc_pass.specs.Starting.{StagesBegin}
use Rattle.cdc_pass.proofs.stages.stages_from.Given as goal

abbrev pub invariant-loop-alloc : goal.invariant-loop-alloc
invariant-loop-alloc l = record {
  first : 1 ≤ l.node;
  few : l.node + length l.points ≤ 257;
  room : length l.stages.items + length l.points ≤ vec_capacity l.stages;
  cuts : AllByRecursion IsCut l.points;
  bytes : AllByRecursion (λ (cut : RestartPoint). cut.place.at < 2 ^ 63) l.points;
  left : (rest : List NodeStage) → StagesBegin l.node l.fn.last l.points rest → StagesBegin 1 l.fn.last l.fn.points (l.stages.items ++ rest);
}

abbrev pub decreases-loop-alloc : goal.decreases-loop-alloc
decreases-loop-alloc l = length l.points
