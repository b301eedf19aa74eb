use Rattle.std.proofs.Common.{◌≡◌, ◌+◌, ◌-◌, ◌≤◌, ◌++◌, IsTrue, length, take, drop}
use Rattle.cdc_outside.specs.Disk.{Image}
use Rattle.cdc_cell.specs.Reading.{IsLeftAlone}
use Rattle.cdc_packet.specs.Packet.{sequence_behind}
use Rattle.cdc_session.specs.Reading.{WindowShows}
use Rattle.cdc_session.proofs.Copies.{Splitting}
use Rattle.cdc_session.proofs.copying.pack_large.Given as goal

-- so many bytes of the file are packed
abbrev pub invariant-loop-stop : goal.invariant-loop-stop
invariant-loop-stop g l = record {
  within : l.done ≤ l.size;
  short : length l.lead ≤ 20;
  number : sequence_behind l.fn.out.sequence (length l.first + l.size) ≡ sequence_behind l.out.sequence (length l.lead + (l.size - l.done));
  alone : IsTrue g.D.Disk.tells → IsLeftAlone g.D.Disk.seen g.D.Disk.synced g.D.Disk.pending g.D.Disk.may_leave g.D.Disk.moment g.D.Disk.left_since l.fn.disk l.disk;
  reads : IsTrue g.D.Disk.tells → (image : Image) → g.D.Disk.seen l.fn.disk ≡ image
      → WindowShows (image l.source.file) l.fn.window.bytes l.fn.window.from l.fn.window.size l.source.limit
      → WindowShows (image l.source.file) l.window.bytes l.window.from l.window.size l.source.limit;
  so_far : IsTrue g.D.Disk.tells → IsTrue g.L.Link.tells → (image : Image) → g.D.Disk.seen l.fn.disk ≡ image
      → WindowShows (image l.source.file) l.fn.window.bytes l.fn.window.from l.fn.window.size l.source.limit
      → Splitting (g.L.Link.written l.fn.link) l.fn.out.held l.fn.out.sequence (l.first ++ take l.size (drop l.at (image l.source.file)))
      (g.L.Link.written l.link) l.out.held l.out.sequence (l.lead ++ take (l.size - l.done) (drop (l.at + l.done) (image l.source.file)));
  disk_later : g.D.Disk.faults l.fn.disk ≤ g.D.Disk.faults l.disk;
  link_later : g.L.Link.faults l.fn.link ≤ g.L.Link.faults l.link;
  input : g.L.Link.input l.link ≡ g.L.Link.input l.fn.link;
  left : g.L.Link.left l.link ≡ g.L.Link.left l.fn.link;
}

abbrev pub decreases-loop-stop : goal.decreases-loop-stop
decreases-loop-stop g l = l.size - l.done
