use Rattle.std.proofs.Common.{◌≡◌, ◌+◌, ◌-◌, ◌≤◌, ◌++◌, IsTrue}
use Rattle.cdc_outside.specs.Disk.{Image}
use Rattle.cdc_cell.specs.Reading.{IsLeftAlone}
use Rattle.cdc_list.proofs.Texts.{files_left}
use Rattle.cdc_list.proofs.out_lines.push_file_lines.Given as goal

-- what is left of the files decides the rest
abbrev pub invariant-loop-number : goal.invariant-loop-number
invariant-loop-number g l = record {
  so_far : IsTrue g.D.Disk.tells → (image : Image) → g.D.Disk.seen l.fn.disk ≡ image
      → l.text ++ files_left l.out l.front image l.number ≡ l.fn.text ++ files_left l.out l.front image l.front.first;
  alone : IsTrue g.D.Disk.tells → IsLeftAlone g.D.Disk.seen g.D.Disk.synced g.D.Disk.pending g.D.Disk.may_leave g.D.Disk.moment g.D.Disk.left_since l.fn.disk l.disk;
  later : g.D.Disk.faults l.fn.disk ≤ g.D.Disk.faults l.disk;
}

abbrev pub decreases-loop-number : goal.decreases-loop-number
decreases-loop-number g l = l.front.file + 1 - l.number
