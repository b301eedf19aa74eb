use Rattle.std.proofs.Common.{take}
use Rattle.std.specs.List.{AllByRecursion}
use Rattle.cdc_records.specs.Checkpoint.{IsCut}
use Rattle.cdc_task.proofs.conditions.are_cuts.Given as goal

abbrev pub invariant-loop-cut : goal.invariant-loop-cut
invariant-loop-cut l = AllByRecursion IsCut (take l.cut-index l.cuts)
