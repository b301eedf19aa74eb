use Rattle.std.proofs.Common.{◌≡◌, length}
use Rattle.cdc_print.specs.Reading.{AreNew}
use Rattle.cdc_print.proofs.printer.readers.Given as goal

abbrev pub invariant-loop-node : goal.invariant-loop-node
invariant-loop-node l = record { many : length l.states.items ≡ l.node; new : AreNew 1 l.states.items }
