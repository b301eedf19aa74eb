use Rattle.std.proofs.Common.{length, ◌+◌, ◌≡◌, ◌≤◌, ◌++◌, IsTrue}
use Rattle.cdc_packet.specs.Packet.{sequence_behind}
use Rattle.cdc_packet.proofs.Sending.{Sending}
use Rattle.cdc_packet.proofs.writing.write_packet.Given as goal

abbrev pub invariant-loop-number : goal.invariant-loop-number
invariant-loop-number g l = record {
  so_far : IsTrue g.L.Link.tells → Sending (g.L.Link.written l.fn.link) l.fn.sequence (l.fn.first ++ l.fn.rest) (g.L.Link.written l.link) l.number (l.front ++ l.back);
  next : sequence_behind l.fn.sequence (length (l.fn.first ++ l.fn.rest)) ≡ sequence_behind l.number (length (l.front ++ l.back));
  later : g.L.Link.faults l.fn.link ≤ g.L.Link.faults l.link;
  input : g.L.Link.input l.link ≡ g.L.Link.input l.fn.link;
  left : g.L.Link.left l.link ≡ g.L.Link.left l.fn.link;
}

abbrev pub decreases-loop-number : goal.decreases-loop-number
decreases-loop-number g l = length l.front + length l.back
