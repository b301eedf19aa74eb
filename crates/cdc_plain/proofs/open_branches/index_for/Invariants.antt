use Rattle.cdc_plain.specs.Entering.{IsPassed}
use Rattle.cdc_plain.proofs.open_branches.index_for.Given as goal

abbrev pub invariant-loop-index : goal.invariant-loop-index
invariant-loop-index l = IsPassed l.xid l.opened l.index
