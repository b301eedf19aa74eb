-- The points so far.
use Rattle.std.proofs.Common.{take}
use Rattle.std.specs.List.{AllZip}
use Rattle.cdc_windows.proofs.window.cuts_of.Given as goal

abbrev pub invariant-loop-node : goal.invariant-loop-node
invariant-loop-node g l = AllZip (λ node cut. g.N.NodePart.rereading.may_restart node l.last cut) (take l.node-index l.nodes) l.cuts
