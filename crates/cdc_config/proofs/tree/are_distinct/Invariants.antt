use Rattle.std.proofs.Common.{◌≡◌, length}
use Rattle.cdc_config.specs.Tree.{are_distinct}
use Rattle.cdc_config.proofs.tree.are_distinct.Given as goal

-- what is left decides the answer
abbrev pub invariant-loop-rest : goal.invariant-loop-rest
invariant-loop-rest l = are_distinct l.rest ≡ are_distinct l.texts

abbrev pub decreases-loop-rest : goal.decreases-loop-rest
decreases-loop-rest l = length l.rest
