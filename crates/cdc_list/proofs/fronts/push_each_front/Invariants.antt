use Rattle.std.proofs.Common.{◌≡◌, ◌++◌}
use Rattle.cdc_list.proofs.Texts.{fronts_left}
use Rattle.cdc_list.proofs.fronts.push_each_front.Given as goal

-- what is left of the outs decides the rest
abbrev pub invariant-loop-index : goal.invariant-loop-index
invariant-loop-index l = l.text ++ fronts_left l.fronts l.index ≡ l.fn.text ++ fronts_left l.fronts 0
