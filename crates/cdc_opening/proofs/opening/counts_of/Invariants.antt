-- The counts so far.
use Rattle.std.proofs.Common.{◌≡◌, take}
use Rattle.cdc_opening.specs.Answers.{published_counts}
use Rattle.cdc_opening.proofs.opening.counts_of.Given as goal

abbrev pub invariant-loop-dumper : goal.invariant-loop-dumper
invariant-loop-dumper l = l.counts.items ≡ published_counts (take l.dumper-index l.dumpers)
