use Rattle.std.proofs.Common.{◌≡◌, ◌≤◌, ◌++◌, IsTrue, List, ℕ, take}
use Rattle.std.specs.List.{flat_map}
use Rattle.cdc_print.proofs.pieces.Pieces.write_to.Given as goal

abbrev pub invariant-loop-piece : goal.invariant-loop-piece
invariant-loop-piece g l = record {
  written : IsTrue g.K.Sink.tells → g.K.Sink.written l.out ≡ g.K.Sink.written l.fn.out ++ flat_map (λ (piece : List ℕ). piece) (take l.piece-index l.piece-items);
  later : g.K.Sink.faults l.fn.out ≤ g.K.Sink.faults l.out;
}
