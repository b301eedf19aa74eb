use Rattle.std.specs.Ordering.{is_gt}
use Rattle.std.proofs.lemmas.List.Filters.{FiltersInPlace}
use Rattle.cdc_base.specs.Key.{key_order}
use Rattle.cdc_sorter.specs.Trail.{RecentBranch}
use Rattle.cdc_sorter.proofs.trail.keep_above.Given as goal

-- those so far with greater keys are in front
abbrev pub invariant-loop-index : goal.invariant-loop-index
invariant-loop-index l = FiltersInPlace (λ (r : RecentBranch). is_gt (key_order r.key l.last)) l.initial.recent.items l.recent.items l.kept l.index
