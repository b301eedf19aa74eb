use Rattle.std.proofs.Common.{◌≡◌, ◌-◌, ◌≤◌, IsTrue, length, take, drop}
use Rattle.cdc_cell.specs.Reading.{IsLeftAlone}
use Rattle.cdc_cell.proofs.reading.read_full.Given as goal

-- so far the file's bytes stand at the front
abbrev pub invariant-loop-filled : goal.invariant-loop-filled
invariant-loop-filled g l = record {
  size : length l.into ≡ length l.fn.into;
  within : l.filled ≤ length l.fn.into;
  bytes : IsTrue g.D.Disk.tells → take l.filled l.into ≡ take l.filled (drop l.at (g.D.Disk.seen l.fn.disk l.file));
  there : IsTrue g.D.Disk.tells → l.filled ≤ length (g.D.Disk.seen l.fn.disk l.file) - l.at;
  alone : IsTrue g.D.Disk.tells → IsLeftAlone g.D.Disk.seen g.D.Disk.synced g.D.Disk.pending g.D.Disk.may_leave g.D.Disk.moment g.D.Disk.left_since l.fn.disk l.disk;
  later : g.D.Disk.faults l.fn.disk ≤ g.D.Disk.faults l.disk;
}

abbrev pub decreases-loop-filled : goal.decreases-loop-filled
decreases-loop-filled g l = length l.fn.into - l.filled
