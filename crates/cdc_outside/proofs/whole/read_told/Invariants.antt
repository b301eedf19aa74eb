use Rattle.std.proofs.Common.{◌-◌, ◌≡◌, ◌≤◌, IsTrue, length, take}
use Rattle.cdc_outside.specs.Source.{file_of, NothingPast}
use Rattle.cdc_outside.proofs.Lowest.{SoFar}
use Rattle.cdc_outside.proofs.whole.read_told.Given as goal

-- what was read is the file's front
abbrev pub invariant-loop-at : goal.invariant-loop-at
invariant-loop-at g l = record {
  front : IsTrue g.S.Source.tells → l.bytes ≡ take l.at (file_of (g.S.Source.held l.fn.source) l.file);
  count : length l.bytes ≡ l.at;
  within : l.at ≤ l.told;
  room : length l.piece ≡ length l.fn.piece;
  later : g.S.Source.faults l.fn.source ≤ g.S.Source.faults l.source;
  held : g.S.Source.held l.source ≡ g.S.Source.held l.fn.source;
  sizes : g.S.Source.sizes l.source ≡ g.S.Source.sizes l.fn.source;
  past : NothingPast l.file l.told (g.S.Source.highest l.fn.source) (g.S.Source.highest l.source);
  lowest : SoFar (g.S.Source.lowest l.fn.source) l.file l.at (g.S.Source.lowest l.source);
}

abbrev pub decreases-loop-at : goal.decreases-loop-at
decreases-loop-at g l = l.told - l.at
