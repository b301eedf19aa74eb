use Rattle.std.proofs.Common.{◌≡◌, ◌-◌, ◌^◌, ◌≤◌, IsTrue}
use Rattle.cdc_cell.specs.Reading.{IsLeftAlone}
use Rattle.cdc_session.specs.Shelf.{Shelf, IsShelf}
use Rattle.cdc_session.proofs.Requests.{Serving}
use Rattle.cdc_session.proofs.serving.session.Given as goal

-- so many requests are served
abbrev pub invariant-loop-served : goal.invariant-loop-served
invariant-loop-served g l = record {
  alone : IsTrue g.D.Disk.tells → IsLeftAlone g.D.Disk.seen g.D.Disk.synced g.D.Disk.pending g.D.Disk.may_leave g.D.Disk.moment g.D.Disk.left_since l.fn.shelf l.shelf;
  so_far : IsTrue g.D.Disk.tells → IsTrue g.L.Link.tells → (found : Shelf) → IsShelf (g.D.Disk.seen l.fn.shelf) found
      → Serving found (g.L.Link.left l.fn.link) (g.L.Link.left l.link) (g.L.Link.written l.fn.link) (g.L.Link.written l.link) (2 ^ 62 - l._served);
  disk_later : g.D.Disk.faults l.fn.shelf ≤ g.D.Disk.faults l.shelf;
  link_later : g.L.Link.faults l.fn.link ≤ g.L.Link.faults l.link;
  input : g.L.Link.input l.link ≡ g.L.Link.input l.fn.link;
}
