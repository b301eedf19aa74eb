use Rattle.std.proofs.Common.{◌≡◌}
use Rattle.cdc_merger.specs.Merging.{no_feeds}
use Rattle.cdc_merger.proofs.merger.no_nodes.Given as goal

abbrev pub invariant-loop : goal.invariant-loop
invariant-loop l = l.list.items ≡ no_feeds l.counter
