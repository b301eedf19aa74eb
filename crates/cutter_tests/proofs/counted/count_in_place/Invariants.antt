use Rattle.std.proofs.Common.{◌≡◌, List, length}
use Rattle.cdc_event.specs.File.{PlacedEvent}
use Rattle.cdc_cutter.specs.Cutting.{Holds}
use Rattle.cutter_tests.proofs.counted.count_in_place.Given as goal

abbrev pub invariant-loop-count : goal.invariant-loop-count
invariant-loop-count l = (given : List PlacedEvent) × (length given ≡ l.count) × Holds l.cutter 0 0 l.file given
