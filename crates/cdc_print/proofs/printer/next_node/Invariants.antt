use Rattle.std.proofs.Common.{◌<◌, length}
use Rattle.cdc_print.proofs.printer.next_node.Given as goal

abbrev pub invariant-loop-index : goal.invariant-loop-index
invariant-loop-index l = l.least < length l.nodes
