use Rattle.std.proofs.Common.{◌≡◌, drop}
use Rattle.cdc_print.specs.Reading.{ends_of, some_lacking}
use Rattle.cdc_print.proofs.verdict.some_lacking.Given as goal

abbrev pub invariant-loop-index : goal.invariant-loop-index
invariant-loop-index l = some_lacking (ends_of (drop l.index l.nodes)) ≡ some_lacking (ends_of l.nodes)
