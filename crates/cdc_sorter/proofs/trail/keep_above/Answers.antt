use Rattle.std.proofs.Common.{arith, sym, ◌∙◌}
use Rattle.std.proofs.lemmas.List.Filters.{FiltersInPlace-more_swap, FiltersInPlace-more_no, FiltersInPlace-all}
use Rattle.cdc_sorter.proofs.trail.keep_above.Goals as goal

pub loop-index-preserved : goal.loop-index-preserved
loop-index-preserved c = elim c.if-above.branch [
  | goal.then-above w ↦
      rw (w.recent-is, w.kept-is) (FiltersInPlace-more_swap c.loop-index.invariant (omega arith) (sym c.is_above-above.ensures ∙ w.if-above.true) c.index.ensures w.swap.ensures.by_index)
  | goal.else-above w ↦
      rw (w.recent-is, w.kept-is) (FiltersInPlace-more_no c.loop-index.invariant (omega arith) (sym c.is_above-above.ensures ∙ w.if-above.false) c.index.ensures)
]

pub returns : goal.returns
returns c = c.truncate.ensures.items ∙ FiltersInPlace-all c.loop-index.invariant (omega arith)
