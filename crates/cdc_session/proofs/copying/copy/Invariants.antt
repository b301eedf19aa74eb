use Rattle.std.proofs.Common.{◌≡◌, ◌-◌, ◌≤◌, IsTrue, take, drop}
use Rattle.cdc_outside.specs.Disk.{Image}
use Rattle.cdc_cell.specs.Reading.{IsLeftAlone}
use Rattle.cdc_session.specs.Packing.{GoesOut}
use Rattle.cdc_session.specs.Reading.{WindowShows}
use Rattle.cdc_session.proofs.copying.copy.Given as goal

-- so many bytes are copied
abbrev pub invariant-loop-done : goal.invariant-loop-done
invariant-loop-done g l = record {
  within : l.done ≤ l.count;
  alone : IsTrue g.D.Disk.tells → IsLeftAlone g.D.Disk.seen g.D.Disk.synced g.D.Disk.pending g.D.Disk.may_leave g.D.Disk.moment g.D.Disk.left_since l.fn.disk l.disk;
  reads : IsTrue g.D.Disk.tells → (image : Image) → g.D.Disk.seen l.fn.disk ≡ image
      → WindowShows (image l.source.file) l.fn.window.bytes l.fn.window.from l.fn.window.size l.source.limit
      → WindowShows (image l.source.file) l.window.bytes l.window.from l.window.size l.source.limit;
  so_far : IsTrue g.D.Disk.tells → IsTrue g.L.Link.tells → (image : Image) → g.D.Disk.seen l.fn.disk ≡ image
      → WindowShows (image l.source.file) l.fn.window.bytes l.fn.window.from l.fn.window.size l.source.limit
      → GoesOut (g.L.Link.written l.fn.link) l.fn.held (take l.done (drop l.at (image l.source.file))) (g.L.Link.written l.link) l.held;
  disk_later : g.D.Disk.faults l.fn.disk ≤ g.D.Disk.faults l.disk;
  link_later : g.L.Link.faults l.fn.link ≤ g.L.Link.faults l.link;
  input : g.L.Link.input l.link ≡ g.L.Link.input l.fn.link;
  left : g.L.Link.left l.link ≡ g.L.Link.left l.fn.link;
}

abbrev pub decreases-loop-done : goal.decreases-loop-done
decreases-loop-done g l = l.count - l.done
