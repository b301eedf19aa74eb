use Rattle.std.proofs.lemmas.List.Filters.{FiltersInPlace}
use Rattle.cdc_sorter.specs.Trail.{stood_at_some}
use Rattle.cdc_sorter.proofs.sweep.keep_wanted.Given as goal

-- those so far that are wanted are in front
abbrev pub invariant-loop-index : goal.invariant-loop-index
invariant-loop-index l = FiltersInPlace (stood_at_some l.numbers) l.initial.ended.items l.ended.items l.kept l.index
