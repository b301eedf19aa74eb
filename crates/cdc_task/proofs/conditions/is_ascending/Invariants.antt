use Rattle.cdc_task.proofs.Orders.{PairsBelow}
use Rattle.cdc_task.proofs.conditions.is_ascending.Given as goal

abbrev pub invariant-loop-index : goal.invariant-loop-index
invariant-loop-index l = PairsBelow l.held l.index
