use Rattle.std.proofs.Common.{◌≡◌, length}
use Rattle.cdc_prog.proofs.serving.doors_at.Given as goal

abbrev pub invariant-loop-place : goal.invariant-loop-place
invariant-loop-place g l = length l.doors.items ≡ l.place
