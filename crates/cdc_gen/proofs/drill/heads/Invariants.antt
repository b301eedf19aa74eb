use Rattle.std.proofs.Common.{◌≡◌, []}
use Rattle.cdc_gen.specs.Growing.{growing_logs}
use Rattle.cdc_gen.proofs.drill.heads.Given as goal

abbrev pub invariant-loop-node : goal.invariant-loop-node
invariant-loop-node l = l.logs.items ≡ growing_logs l._node []
