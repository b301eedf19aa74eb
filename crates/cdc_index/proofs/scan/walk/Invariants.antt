use Rattle.std.proofs.Common.{◌-◌, ◌≤◌, IsTrue, length, take}
use Rattle.cdc_cell.specs.Reading.{IsLeftAlone}
use Rattle.cdc_index.specs.Shelf.{Shows}
use Rattle.cdc_index.proofs.ChainLemmas.{Walked}
use Rattle.cdc_index.proofs.scan.walk.Given as goal

-- the events up to a place are walked over
abbrev pub invariant-loop-place : goal.invariant-loop-place
invariant-loop-place g l = record {
  within : l.place ≤ l.limit;
  behind : 4 ≤ l.place;
  room : 19 ≤ length l.window;
  before : l.part.from ≤ l.place;
  size : l.part.size ≤ length l.window;
  alone : IsTrue g.D.Disk.tells → IsLeftAlone g.D.Disk.seen g.D.Disk.synced g.D.Disk.pending g.D.Disk.may_leave g.D.Disk.moment g.D.Disk.left_since l.fn.disk l.disk;
  shown : IsTrue g.D.Disk.tells → Shows (g.D.Disk.seen l.fn.disk l.file) l.fn.window l.fn.shown.from l.fn.shown.size
      → Shows (g.D.Disk.seen l.fn.disk l.file) l.window l.part.from l.part.size;
  so_far : IsTrue g.D.Disk.tells → l.limit ≤ length (g.D.Disk.seen l.fn.disk l.file) → Shows (g.D.Disk.seen l.fn.disk l.file) l.fn.window l.fn.shown.from l.fn.shown.size
      → Walked (take l.limit (g.D.Disk.seen l.fn.disk l.file)) l.at l.place l.found;
  later : g.D.Disk.faults l.fn.disk ≤ g.D.Disk.faults l.disk;
}

abbrev pub decreases-loop-place : goal.decreases-loop-place
decreases-loop-place g l = l.limit - l.place
