use Rattle.std.proofs.Common.{◌≡◌, true, take}
use Rattle.cdc_query.proofs.Pieces.{lacks}
use Rattle.cdc_query.proofs.words.cut.Given as goal

abbrev pub invariant-loop-at : goal.invariant-loop-at
invariant-loop-at l = lacks l.stop (take l.at l.text) ≡ true
