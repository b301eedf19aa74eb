use Rattle.std.proofs.Common.{◌≡◌, ◌+◌, ◌++◌, take, reverse}
use Rattle.cdc_model.specs.Start.{left_by}
use Rattle.cdc_model.specs.Branch.{committed_branches}
use Rattle.cdc_plain.proofs.committed.add_committed.Given as goal

abbrev pub invariant-loop-entry : goal.invariant-loop-entry
invariant-loop-entry l =
    (l.start.entry ≡ l.first.entry + l.entry-index)
    × (l.start ≡ left_by l.first (reverse (take l.entry-index l.entries)))
    × (l.branches ≡ l.fn.branches ++ committed_branches l.last l.first l.node (reverse (take l.entry-index l.entries)))
