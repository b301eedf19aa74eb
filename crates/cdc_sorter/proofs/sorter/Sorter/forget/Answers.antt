use Rattle.std.proofs.Common.{◌≡◌, ap, sym, subst, ◌∙◌}
use Rattle.cdc_sorter.specs.Trail.{Trail, trail_known}
use Rattle.cdc_sorter.specs.Sorting.{Sorting, HoldsReading}
use Rattle.cdc_sorter.proofs.Steps.{forgets}
use Rattle.cdc_sorter.proofs.sorter.Sorter.forget.Goals as goal

pub returns-clause-holds : goal.returns-clause-holds
returns-clause-holds c =
    let s = c.self.inside in
    let there : Trail → Sorting = λ (trail : Trail). record { last = s.last; node = s.node; first = s.first; here = s.here; waiting = s.waiting; trail = trail; stopped = s.stopped } in
    let known : Sorting → Sorting = λ (old : Sorting). record old { trail = trail_known old.trail c.args.last.now } in
    let is : there c.forget.new.self ≡ known c.args.self.now = ap there c.forget.ensures ∙ ap known c.self.view_is in
    λ reading history gave h.
    subst (λ (sorter : Sorting). HoldsReading sorter reading history gave) (sym is) (forgets c.args.self.now reading history gave c.args.last.now h)
