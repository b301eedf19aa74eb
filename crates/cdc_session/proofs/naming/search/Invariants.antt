use Rattle.std.proofs.Common.{◌≡◌, ◌+◌, ◌-◌, ◌≤◌}
use Rattle.cdc_outside.specs.Disk.{Image}
use Rattle.cdc_session.specs.Shelf.{shelf_files, files_on}
use Rattle.cdc_session.specs.Dump.{named_files}
use Rattle.cdc_session.proofs.naming.search.Given as goal

-- no file before has the name
abbrev pub invariant-loop-number : goal.invariant-loop-number
invariant-loop-number l = record {
  kept : l.front.first ≤ l.number;
  left : (image : Image) → named_files l.name (shelf_files l.front image) ≡ named_files l.name (files_on l.front image l.number);
}

abbrev pub decreases-loop-number : goal.decreases-loop-number
decreases-loop-number l = l.front.file + 1 - l.number
