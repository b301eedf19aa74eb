use Rattle.std.proofs.Common.{◌≡◌, ℕ, ◌+◌, ◌*◌, ◌-◌, length, map}
use Rattle.std.specs.List.{range_with_len, AllByRecursion}
use Rattle.cdc_gen.specs.Draws.{state_after}
use Rattle.cdc_gen.specs.Script.{planned}
use Rattle.cdc_gen.specs.Growing.{IsPlanned}
use Rattle.cdc_gen.proofs.block.plan_block.Given as goal

abbrev pub invariant-loop-number : goal.invariant-loop-number
invariant-loop-number l = record {
  size : length l.plan.items ≡ l.number - l.first;
  all : AllByRecursion (IsPlanned l.nodes) l.plan.items;
  state : (seed block : ℕ) → l.fn.draws.state ≡ state_after (5 * block) seed → l.draws.state ≡ state_after (5 * block + (l.number - l.first)) seed;
  plan : (seed block : ℕ) → l.first ≡ 4 * block + 1 → l.fn.draws.state ≡ state_after (5 * block) seed →
      l.plan.items ≡ map (planned seed l.nodes) (range_with_len l.first (l.number - l.first));
}
