use Rattle.std.proofs.Common.{◌≡◌, take}
use Rattle.cdc_config.proofs.texts.lists_of.Given as goal

-- the lists so far
abbrev pub invariant-loop-list : goal.invariant-loop-list
invariant-loop-list l = l.copies ≡ take l.list-index l.lists
