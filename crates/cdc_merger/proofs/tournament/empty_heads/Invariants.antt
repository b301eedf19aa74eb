use Rattle.std.proofs.Common.{◌≡◌}
use Rattle.cdc_merger.specs.Heads.{no_heads}
use Rattle.cdc_merger.proofs.tournament.empty_heads.Given as goal

abbrev pub invariant-loop : goal.invariant-loop
invariant-loop g l = l.heads.items ≡ no_heads _ l.counter
