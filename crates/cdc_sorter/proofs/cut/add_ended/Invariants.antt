use Rattle.std.proofs.Common.{◌≡◌, ◌-◌, drop}
use Rattle.cdc_sorter.specs.Trail.{with_ended}
use Rattle.cdc_sorter.proofs.cut.add_ended.Given as goal

-- those behind are there
abbrev pub invariant-loop-index : goal.invariant-loop-index
invariant-loop-index l = l.held ≡ with_ended l.number (drop (l.count - l.index) l.ended) l.fn.held
