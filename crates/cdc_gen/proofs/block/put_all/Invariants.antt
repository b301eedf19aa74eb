use Rattle.std.proofs.Common.{◌≡◌, ℕ, ◌≤◌, ◌+◌, ◌*◌, List, ◌++◌, length, take, drop}
use Rattle.std.specs.List.{flat_map, AllByRecursion}
use Rattle.cdc_gen.specs.declared.step.Step.{Step}
use Rattle.cdc_gen.specs.Script.{script_steps}
use Rattle.cdc_gen.specs.Growing.{growing_logs, IsPlanned}
use Rattle.cdc_gen.proofs.block.put_all.Given as goal

abbrev pub invariant-loop-planned : goal.invariant-loop-planned
invariant-loop-planned l = record {
  nodes : length l.logs.items ≡ length l.fn.logs.items;
  left : AllByRecursion (IsPlanned (length l.fn.logs.items)) (drop l.planned-index l.plan);
  logs : (nodes : ℕ) (steps : List Step) → length steps + 2 * length l.plan ≤ 1000000 → l.fn.logs.items ≡ growing_logs nodes steps →
      l.logs.items ≡ growing_logs nodes (steps ++ flat_map (script_steps nodes l.kind) (take l.planned-index l.plan));
}
