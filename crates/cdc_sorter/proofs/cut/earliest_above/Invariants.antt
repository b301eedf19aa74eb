use Rattle.std.proofs.Common.{◌≡◌, drop}
use Rattle.cdc_sorter.specs.Trail.{earliest, stands_above}
use Rattle.cdc_sorter.proofs.cut.earliest_above.Given as goal

-- what is left decides the rest
abbrev pub invariant-loop-branch : goal.invariant-loop-branch
invariant-loop-branch l =
    earliest l.best (stands_above l.last (drop l.branch-index l.recent)) ≡ earliest l.fn.best (stands_above l.last l.recent)
