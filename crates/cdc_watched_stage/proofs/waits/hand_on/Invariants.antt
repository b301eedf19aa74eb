-- What was handed on so far, and how many wait still.
use Rattle.std.proofs.Common.{◌≡◌, ◌≤◌, List, ◌++◌, length}
use Rattle.std.specs.List.{AllByRecursion}
use Rattle.cdc_model.specs.Records.{OutputUnit}
use Rattle.cdc_watched_stage.specs.Getting.{HasGot}
use Rattle.cdc_watched_stage.proofs.waits.hand_on.Given as goal

abbrev pub decreases-loop-unit : goal.decreases-loop-unit
decreases-loop-unit g l = length l.waits.items

abbrev pub invariant-loop-unit : goal.invariant-loop-unit
invariant-loop-unit g l = (handed : List OutputUnit) × (l.initial.waits.items ≡ handed ++ l.waits.items) × AllByRecursion (λ (u : OutputUnit). u.number ≤ l.fn.count) handed
    × HasGot (g.W.Watch.kept l.initial.watch) (g.W.Watch.ended l.initial.watch) handed (g.W.Watch.kept l.watch) (g.W.Watch.ended l.watch)
