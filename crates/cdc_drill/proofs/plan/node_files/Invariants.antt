-- One list a node so far.
use Rattle.std.proofs.Common.{◌≡◌, length}
use Rattle.cdc_drill.proofs.plan.node_files.Given as goal

abbrev pub invariant-loop-node : goal.invariant-loop-node
invariant-loop-node l = length l.files ≡ l._node
