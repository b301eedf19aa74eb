use Rattle.std.proofs.Common.{◌≡◌, ◌++◌, take, drop}
use Rattle.cdc_merger.specs.Rounds.{heads_under}
use Rattle.cdc_merger.proofs.gather.put_heads.Given as goal

abbrev pub invariant-loop-index : goal.invariant-loop-index
invariant-loop-index l = l.heads ≡ heads_under l.mark (take l.index l.nodes) ++ drop l.index l.fn.heads
