use Rattle.std.proofs.Common.{◌≡◌, ℕ, length, ap, ◌∙◌}
use Rattle.cdc_sorter.specs.Trail.{Trail, trail_back}
use Rattle.cdc_sorter.specs.Sorting.{Sorting}
use Rattle.cdc_sorter.proofs.Backs.{noted_back, on_err}
use Rattle.cdc_sorter.proofs.sorter.Sorter.own.Goals as goal

pub returns-in_err-wait_or_back-clause-err : goal.returns-in_err-wait_or_back-clause-err
returns-in_err-wait_or_back-clause-err c =
    let s = c.self.inside in
    let there : Trail → Sorting = λ (trail : Trail). record { last = s.last; node = s.node; first = s.first; here = s.here; waiting = s.waiting; trail = trail; stopped = s.stopped } in
    let back : ℕ → ℕ → Trail → Sorting = λ (ended : ℕ) (recent : ℕ) (trail : Trail). there (trail_back ended recent trail) in
    let counts = c.counts-counts in
    on_err (c.wait_or_back.new.self ≡ c.args.self.now) c.from_residual-in_err-wait_or_back.result
    (c.in_err-wait_or_back.ensures.err
    ∙ ap (λ (n : ℕ). back n counts.result.1 c.note.new.self) counts.ensures.ended
    ∙ ap (λ (n : ℕ). back (length s.trail.ended) n c.note.new.self) counts.ensures.recent
    ∙ ap (back (length s.trail.ended) (length s.trail.recent)) c.in_ok-note.ensures.ok
    ∙ ap there (noted_back s.trail c.args.key c.present-stand.result)
    ∙ c.self.view_is)
