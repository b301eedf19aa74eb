-- All sources are as they were but for their counts; those to come are as they were.
use Rattle.std.proofs.Common.{◌≡◌, ℕ, ◌≤◌, length, get_or}
use Rattle.std.specs.List.{AllZip}
use Rattle.cdc_opening.specs.OpenSources.{IsSourceKept}
use Rattle.cdc_opening.proofs.sources.open_all_whole.Given as goal

abbrev pub invariant-loop-index : goal.invariant-loop-index
invariant-loop-index g l = record {
  long : length l.sources ≡ length l.fn.sources;
  kept : AllZip (IsSourceKept g.S.Source.held g.S.Source.sizes g.S.Source.lowest g.S.Source.highest g.S.Source.faults) l.fn.sources l.sources;
  same : (k : ℕ) (d : g.row.S.Denot) → l.index ≤ k → get_or l.sources k d ≡ get_or l.fn.sources k d;
}
