-- The sources so far.
use Rattle.std.proofs.Common.{◌≡◌, map, take}
use Rattle.cdc_memory.specs.Source.{pure_held_files}
use Rattle.cdc_drill.specs.Attempts.{one_file_each}
use Rattle.cdc_drill.proofs.devices.sources_of.Given as goal

abbrev pub invariant-loop-log : goal.invariant-loop-log
invariant-loop-log l = map pure_held_files l.sources.items ≡ one_file_each (take l.log-index l.logs)
