use Rattle.std.proofs.Common.{◌≡◌, ℕ, [], ◌≤◌, ◌*◌, length}
use Rattle.std.specs.List.{range_with_len, flat_map}
use Rattle.cdc_gen.specs.Draws.{state_after}
use Rattle.cdc_gen.specs.Script.{block_steps}
use Rattle.cdc_gen.specs.Growing.{growing_logs}
use Rattle.cdc_gen.proofs.drill.put_blocks.Given as goal

abbrev pub invariant-loop-block : goal.invariant-loop-block
invariant-loop-block l = record {
  nodes : length l.logs.items ≡ length l.fn.logs.items;
  state : 4 * l.block ≤ l.count → l.draws.state ≡ state_after (5 * l.block) l.seed;
  logs : (nodes : ℕ) → l.fn.logs.items ≡ growing_logs nodes [] → l.logs.items ≡ growing_logs nodes (flat_map (block_steps l.seed nodes l.count) (range_with_len 0 l.block));
}
