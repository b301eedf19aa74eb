use Rattle.std.proofs.Common.{◌≡◌, ◌++◌, length}
use Rattle.cdc_sorter.specs.Cut.{pairs_of}
use Rattle.cdc_sorter.proofs.held_map.HeldMap.into_list.Given as goal

-- what was put and what is left are all
abbrev pub invariant-loop-key : goal.invariant-loop-key
invariant-loop-key l = l.list ++ pairs_of l.pairs.entries ≡ l.fn.self

abbrev pub decreases-loop-key : goal.decreases-loop-key
decreases-loop-key l = length l.pairs.entries
