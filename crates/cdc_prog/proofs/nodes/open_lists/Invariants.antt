use Rattle.std.proofs.Common.{◌≡◌, length}
use Rattle.cdc_prog.proofs.nodes.open_lists.Given as goal

abbrev pub invariant-loop-list : goal.invariant-loop-list
invariant-loop-list g l = length l.nodes.items ≡ l.list-index
