use Rattle.std.proofs.Common.{◌≡◌, length}
use Rattle.cdc_merge_stage.proofs.slots.no_bounds.Given as goal

abbrev pub invariant-loop : goal.invariant-loop
invariant-loop l = (length l.bounds.items ≡ l.counter)
