use Rattle.std.proofs.Common.{◌≡◌, ◌≤◌, ◌++◌, length, drop}
use Rattle.cdc_model.specs.Print.{digits}
use Rattle.cdc_writer.proofs.digits.write_digits.Given as goal

-- the digits that are left, and those that are written
abbrev pub invariant-loop-places : goal.invariant-loop-places
invariant-loop-places l = record {
  within : l.places ≤ length l.out;
  written : digits (length l.fn.out) l.number ≡ digits l.places l.rest ++ drop l.places l.out;
}

abbrev pub decreases-loop-places : goal.decreases-loop-places
decreases-loop-places l = l.places
