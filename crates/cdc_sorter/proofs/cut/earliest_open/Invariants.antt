use Rattle.std.proofs.Common.{◌≡◌}
use Rattle.cdc_open.specs.Table.{standing_list}
use Rattle.cdc_sorter.specs.Trail.{earliest, stands_open}
use Rattle.cdc_sorter.proofs.cut.earliest_open.Given as goal

-- what is left decides the rest
abbrev pub invariant-loop-standing : goal.invariant-loop-standing
invariant-loop-standing l =
    earliest l.best (stands_open l.first (standing_list l.standing-iterator)) ≡ earliest l.fn.best (stands_open l.first l.opened)
