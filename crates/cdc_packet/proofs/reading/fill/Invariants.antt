use Rattle.std.proofs.Common.{length, ◌-◌, ◌≡◌, ◌≤◌, IsTrue}
use Rattle.cdc_packet.proofs.Filling.{FilledTo}
use Rattle.cdc_packet.proofs.reading.fill.Given as goal

abbrev pub invariant-loop-filled : goal.invariant-loop-filled
invariant-loop-filled g l = record {
  within : l.filled ≤ length l.piece;
  size : length l.piece ≡ length l.fn.piece;
  so_far : IsTrue g.L.Link.tells → FilledTo (g.L.Link.left l.fn.link) l.piece l.filled (g.L.Link.left l.link);
  later : g.L.Link.faults l.fn.link ≤ g.L.Link.faults l.link;
  input : g.L.Link.input l.link ≡ g.L.Link.input l.fn.link;
  written : g.L.Link.written l.link ≡ g.L.Link.written l.fn.link;
}

abbrev pub decreases-loop-filled : goal.decreases-loop-filled
decreases-loop-filled g l = length l.initial.piece - l.filled
