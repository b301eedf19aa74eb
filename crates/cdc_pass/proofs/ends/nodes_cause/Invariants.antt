-- The first of the causes so far.
use Rattle.std.proofs.Common.{take}
use Rattle.cdc_windows.specs.Causes.{IsFirstPassCause}
use Rattle.cdc_headline.specs.Ending.{causes_of_nodes}
use Rattle.cdc_pass.proofs.ends.nodes_cause.Given as goal

abbrev pub invariant-loop-index : goal.invariant-loop-index
invariant-loop-index g l = IsFirstPassCause (take l.index (causes_of_nodes 1 l.nodes)) l.first
