use Rattle.std.proofs.Common.{◌≡◌, ap, sym, subst, refl, ◌∙◌}
use Rattle.std.specs.List.Sorted.{IsPermutation}
use Rattle.cdc_sorter.specs.Seen.{sorter_seen}
use Rattle.cdc_sorter.specs.Trail.{began_numbers}
use Rattle.cdc_sorter.specs.Sorting.{Sorting, HoldsReading}
use Rattle.cdc_sorter.proofs.Backs.{before_is}
use Rattle.cdc_sorter.proofs.Steps.{sweeps_by}
use Rattle.cdc_sorter.proofs.sorter.Sorter.sweep.Goals as goal

pub returns-clause-holds : goal.returns-clause-holds
returns-clause-holds c =
    let old : Sorting = sorter_seen (before_is c.self-inside.view_is) in
    let same : old ≡ c.args.self.now = ap sorter_seen c.self-inside.view_is ∙ c.self.view_is in
    λ reading history gave.
    subst (λ (x : Sorting). HoldsReading x reading history gave → HoldsReading (record old { trail = c.sweep.new.self }) reading history gave) same
    (sweeps_by old c.sweep.new.self c.as_slice.result.now old.here.opened c.recent.result.now reading history gave
    refl c.recent.ensures
    (subst (IsPermutation (began_numbers old.here.opened c.recent.result.now)) (sym c.as_slice.ensures.value) c.in-Ok.ensures.same)
    c.sweep.ensures)
