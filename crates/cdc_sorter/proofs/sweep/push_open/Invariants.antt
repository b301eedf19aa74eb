use Rattle.std.proofs.Common.{◌≡◌, ◌++◌, map}
use Rattle.cdc_open.specs.Table.{standing_list}
use Rattle.cdc_sorter.proofs.sweep.push_open.Given as goal

-- the numbers so far, and those that are left
abbrev pub invariant-loop-standing : goal.invariant-loop-standing
invariant-loop-standing l =
    l.numbers.items ++ map (λ s. s.branch.entry) (standing_list l.standing-iterator) ≡ l.initial.numbers.items ++ map (λ s. s.branch.entry) l.opened
