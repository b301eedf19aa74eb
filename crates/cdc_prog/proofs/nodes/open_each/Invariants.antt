use Rattle.std.proofs.Common.{◌≡◌, length}
use Rattle.cdc_prog.proofs.nodes.open_each.Given as goal

abbrev pub invariant-loop-file : goal.invariant-loop-file
invariant-loop-file g l = length l.nodes.items ≡ l.file-index
