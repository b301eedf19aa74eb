use Rattle.std.proofs.Common.{◌≡◌, ◌+◌, drop}
use Rattle.cdc_print.specs.Reading.{ends_of, fault_end}
use Rattle.cdc_print.proofs.verdict.fault_end.Given as goal

abbrev pub invariant-loop-index : goal.invariant-loop-index
invariant-loop-index l = fault_end (l.index + 1) (ends_of (drop l.index l.nodes)) ≡ fault_end 1 (ends_of l.nodes)
