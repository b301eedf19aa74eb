use Rattle.std.proofs.Common.{◌≡◌, length}
use Rattle.cdc_config.specs.Keys.{names_of}
use Rattle.cdc_config.specs.Tree.{are_distinct}
use Rattle.cdc_config.proofs.keys.have_distinct_names.Given as goal

-- what is left decides the answer
abbrev pub invariant-loop-rest : goal.invariant-loop-rest
invariant-loop-rest l = are_distinct (names_of l.rest) ≡ are_distinct (names_of l.users)

abbrev pub decreases-loop-rest : goal.decreases-loop-rest
decreases-loop-rest l = length l.rest
