use Rattle.std.proofs.Common.{◌≡◌, map, take}
use Rattle.cdc_sorter.specs.Trail.{standing_held}
use Rattle.cdc_sorter.proofs.sorter.held_open.Given as goal

-- the pairs so far are open
abbrev pub invariant-loop-pair : goal.invariant-loop-pair
invariant-loop-pair l = l.opened ≡ map (standing_held l.place l.checksum) (take l.pair-index l.held)
