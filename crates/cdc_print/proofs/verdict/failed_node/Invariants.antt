use Rattle.std.proofs.Common.{◌≡◌, ◌+◌, drop}
use Rattle.cdc_print.specs.Reading.{ends_of, failed_node}
use Rattle.cdc_print.proofs.verdict.failed_node.Given as goal

abbrev pub invariant-loop-index : goal.invariant-loop-index
invariant-loop-index l = failed_node (l.index + 1) (ends_of (drop l.index l.nodes)) ≡ failed_node 1 (ends_of l.nodes)
