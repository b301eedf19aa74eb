use Rattle.std.proofs.Common.{◌≡◌, ◌≤◌, take}
use Rattle.std.specs.Prelude.{◌==◌}
use Rattle.std.specs.Str.{bytes_eq}
use Rattle.cdc_auth.proofs.answer.same_digest.Given as goal

-- so far the bytes are equal exactly where none differs
abbrev pub invariant-loop-i : goal.invariant-loop-i
invariant-loop-i l = record {
  few : l.differing ≤ l.i;
  so_far : (l.differing == 0) ≡ bytes_eq (take l.i l.digest) (take l.i l.other);
}
