use Rattle.std.proofs.Common.{◌≡◌}
use Rattle.cdc_gen.proofs.drill.frozen.Given as goal

abbrev pub invariant-loop-log : goal.invariant-loop-log
invariant-loop-log l = l.list ≡ l.yielded
