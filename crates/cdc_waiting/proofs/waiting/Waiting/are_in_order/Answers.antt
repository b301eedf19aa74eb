use Rattle.std.proofs.Common.{subst}
use Rattle.std.specs.List.Sorted.{IsStrictlySortedBy}
use Rattle.cdc_waiting.specs.Waiting.{wait_order}
use Rattle.cdc_waiting.proofs.Behind.{branches_sorted}
use Rattle.cdc_waiting.proofs.waiting.Waiting.are_in_order.Goals as goal

pub returns : goal.returns
returns c = subst (IsStrictlySortedBy wait_order) c.self.view_is (branches_sorted c.self.inside.branches.keys c.len-count.ensures.ordered)
