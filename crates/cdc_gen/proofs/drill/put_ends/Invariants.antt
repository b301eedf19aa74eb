use Rattle.std.proofs.Common.{◌≡◌, ℕ, ◌≤◌, ◌+◌, List, ◌++◌, length}
use Rattle.cdc_gen.specs.declared.step.Step.{Step}
use Rattle.cdc_gen.specs.Script.{end_steps}
use Rattle.cdc_gen.specs.Growing.{growing_logs}
use Rattle.cdc_gen.proofs.drill.put_ends.Given as goal

abbrev pub invariant-loop-index : goal.invariant-loop-index
invariant-loop-index l = record {
  nodes : length l.logs.items ≡ length l.fn.logs.items;
  logs : (nodes : ℕ) (steps : List Step) → length steps + 256 ≤ 1000000 → l.fn.logs.items ≡ growing_logs nodes steps →
      l.logs.items ≡ growing_logs nodes (steps ++ end_steps l.index l.count);
}
