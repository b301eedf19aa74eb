use Rattle.std.proofs.Common.{◌≡◌, length, take}
use Rattle.cdc_auth.specs.Answer.{xor_bytes}
use Rattle.cdc_auth.proofs.answer.xor.Given as goal

-- so far the bytes are joined
abbrev pub invariant-loop-i : goal.invariant-loop-i
invariant-loop-i l = record {
  size : length l.joined ≡ 20;
  so_far : take l.i l.joined ≡ xor_bytes (take l.i l.bytes) (take l.i l.others);
}
