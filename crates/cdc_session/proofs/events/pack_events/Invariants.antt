use Rattle.std.proofs.Common.{◌≡◌, ◌-◌, ◌≤◌, IsTrue, take, drop}
use Rattle.std.specs.Prelude.{true}
use Rattle.cdc_outside.specs.Disk.{Image}
use Rattle.cdc_cell.specs.Reading.{IsLeftAlone}
use Rattle.cdc_index.specs.Chain.{is_chain}
use Rattle.cdc_session.specs.Dump.{as_payloads, events_from}
use Rattle.cdc_session.specs.Reading.{WindowShows}
use Rattle.cdc_session.proofs.Sent.{Streaming}
use Rattle.cdc_session.proofs.events.pack_events.Given as goal

-- the events before a place are packed
abbrev pub invariant-loop-place : goal.invariant-loop-place
invariant-loop-place g l = record {
  within : l.place ≤ l.source.limit;
  alone : IsTrue g.D.Disk.tells → IsLeftAlone g.D.Disk.seen g.D.Disk.synced g.D.Disk.pending g.D.Disk.may_leave g.D.Disk.moment g.D.Disk.left_since l.fn.disk l.disk;
  reads : IsTrue g.D.Disk.tells → (image : Image) → g.D.Disk.seen l.fn.disk ≡ image
      → WindowShows (image l.source.file) l.fn.window.bytes l.fn.window.from l.fn.window.size l.source.limit
      → WindowShows (image l.source.file) l.window.bytes l.window.from l.window.size l.source.limit;
  chain : IsTrue g.D.Disk.tells → (image : Image) → g.D.Disk.seen l.fn.disk ≡ image
      → WindowShows (image l.source.file) l.fn.window.bytes l.fn.window.from l.fn.window.size l.source.limit
      → is_chain (drop l.at (take l.source.limit (image l.source.file))) ≡ true → is_chain (drop l.place (take l.source.limit (image l.source.file))) ≡ true;
  so_far : IsTrue g.D.Disk.tells → IsTrue g.L.Link.tells → (image : Image) → g.D.Disk.seen l.fn.disk ≡ image
      → WindowShows (image l.source.file) l.fn.window.bytes l.fn.window.from l.fn.window.size l.source.limit
      → Streaming (g.L.Link.written l.fn.link) l.fn.out.held l.fn.out.sequence (as_payloads (events_from l.at (take l.source.limit (image l.source.file))))
      (g.L.Link.written l.link) l.out.held l.out.sequence (as_payloads (events_from l.place (take l.source.limit (image l.source.file))));
  disk_later : g.D.Disk.faults l.fn.disk ≤ g.D.Disk.faults l.disk;
  link_later : g.L.Link.faults l.fn.link ≤ g.L.Link.faults l.link;
  input : g.L.Link.input l.link ≡ g.L.Link.input l.fn.link;
  left : g.L.Link.left l.link ≡ g.L.Link.left l.fn.link;
}

abbrev pub decreases-loop-place : goal.decreases-loop-place
decreases-loop-place g l = l.source.limit - l.place
