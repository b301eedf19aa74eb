use Rattle.std.proofs.Common.{◌≡◌, length, false}
use Rattle.std.specs.List.{All}
use Rattle.cdc_merge_stage.proofs.slots.no_ends.Given as goal

abbrev pub invariant-loop : goal.invariant-loop
invariant-loop l = (length l.flags.items ≡ l.counter) × All (λ flag. flag ≡ false) l.flags.items
