use Rattle.std.proofs.Common.{◌≡◌, length}
use Rattle.cdc_prog.proofs.serving.salts_over.Given as goal

abbrev pub invariant-loop : goal.invariant-loop
invariant-loop g l = length l.salts.items ≡ l.counter
