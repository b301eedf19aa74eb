-- Those so far are over.
use Rattle.std.proofs.Common.{take}
use Rattle.cdc_windows.specs.Rereading.{AreOver}
use Rattle.cdc_windows.proofs.windows.are_over.Given as goal

abbrev pub invariant-loop-node : goal.invariant-loop-node
invariant-loop-node g l = AreOver g.N.NodePart.rereading (take l.node-index l.nodes)
