use Rattle.std.proofs.Common.{length, ◌-◌, ◌≡◌, ◌≤◌, ◌++◌, List, ℕ, IsTrue}
use Rattle.cdc_packet.proofs.Filling.{TakenTo}
use Rattle.cdc_packet.proofs.reading.read_payload.Given as goal

abbrev pub invariant-loop-taken : goal.invariant-loop-taken
invariant-loop-taken g l = record {
  within : l.taken ≤ l.size;
  room : length l.piece ≡ 4096;
  so_far : IsTrue g.L.Link.tells → TakenTo (g.L.Link.left l.fn.link) l.fn.into l.taken l.into (g.L.Link.left l.link);
  grown : (more : List ℕ) × (l.into ≡ l.fn.into ++ more) × (length more ≡ l.taken);
  later : g.L.Link.faults l.fn.link ≤ g.L.Link.faults l.link;
  input : g.L.Link.input l.link ≡ g.L.Link.input l.fn.link;
  written : g.L.Link.written l.link ≡ g.L.Link.written l.fn.link;
}

abbrev pub decreases-loop-taken : goal.decreases-loop-taken
decreases-loop-taken g l = l.size - l.taken
