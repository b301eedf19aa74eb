-- The first of the causes so far.
use Rattle.std.proofs.Common.{take}
use Rattle.cdc_windows.specs.Causes.{causes_of_outs, IsFirstPassCause}
use Rattle.cdc_windows.proofs.causes.outs_cause.Given as goal

abbrev pub invariant-loop-index : goal.invariant-loop-index
invariant-loop-index g l = IsFirstPassCause (take l.index (causes_of_outs 1 l.dumps)) l.first
