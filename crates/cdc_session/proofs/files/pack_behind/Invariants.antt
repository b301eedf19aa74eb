use Rattle.std.proofs.Common.{◌≡◌, ◌+◌, ◌-◌, ◌≤◌, IsTrue}
use Rattle.cdc_outside.specs.Disk.{Image}
use Rattle.cdc_cell.specs.Reading.{IsLeftAlone}
use Rattle.cdc_session.specs.Dump.{whole_payloads, are_whole}
use Rattle.cdc_session.specs.Shelf.{files_on}
use Rattle.cdc_session.proofs.Sent.{Streaming}
use Rattle.cdc_session.proofs.files.pack_behind.Given as goal

-- the files up to one are packed, and whole
abbrev pub invariant-loop-next : goal.invariant-loop-next
invariant-loop-next g l = record {
  kept : l.front.first ≤ l.file;
  upto : l.file ≤ l.front.file;
  alone : IsTrue g.D.Disk.tells → IsLeftAlone g.D.Disk.seen g.D.Disk.synced g.D.Disk.pending g.D.Disk.may_leave g.D.Disk.moment g.D.Disk.left_since l.fn.disk l.disk;
  whole : IsTrue g.D.Disk.tells → (image : Image) → g.D.Disk.seen l.fn.disk ≡ image
      → are_whole (files_on l.front image (l.number + 1)) ≡ are_whole (files_on l.front image (l.file + 1));
  so_far : IsTrue g.D.Disk.tells → IsTrue g.L.Link.tells → (image : Image) → g.D.Disk.seen l.fn.disk ≡ image
      → Streaming (g.L.Link.written l.fn.link) l.fn.out.held l.fn.out.sequence (whole_payloads (files_on l.front image (l.number + 1)))
      (g.L.Link.written l.link) l.out.held l.out.sequence (whole_payloads (files_on l.front image (l.file + 1)));
  disk_later : g.D.Disk.faults l.fn.disk ≤ g.D.Disk.faults l.disk;
  link_later : g.L.Link.faults l.fn.link ≤ g.L.Link.faults l.link;
  input : g.L.Link.input l.link ≡ g.L.Link.input l.fn.link;
  left : g.L.Link.left l.link ≡ g.L.Link.left l.fn.link;
}

abbrev pub decreases-loop-next : goal.decreases-loop-next
decreases-loop-next g l = l.front.file - l.file
