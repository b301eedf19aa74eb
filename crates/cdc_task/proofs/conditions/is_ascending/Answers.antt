use Rattle.std.proofs.Common.{IsTrue, false, refl, arith}
use Rattle.cdc_task.proofs.Orders.{all_pairs, not_ascending}
use Rattle.cdc_task.proofs.conditions.is_ascending.Goals as goal

pub returns-then-not-is_below : goal.returns-then-not-is_below
returns-then-not-is_below c = (
  λ e. absurd cc,
  λ ascend. absurd (not_ascending c.args.held.now c.loop-index.index c.index-held-index.result c.index-held-index-in-loop-index.result (omega arith) (omega arith)
      (λ below. let told : IsTrue false = c.if-not-is_below.ensures.1 below in absurd cc) ascend),
)

pub returns : goal.returns
returns c = (λ e. all_pairs c.args.held.now c.loop-index.index (omega arith) c.loop-index.invariant, λ ascend. refl)
