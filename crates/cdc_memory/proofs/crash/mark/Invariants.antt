use Rattle.std.proofs.Common.{◌≡◌, length, take}
use Rattle.cdc_outside.specs.Disk.{Image}
use Rattle.cdc_memory.specs.CrashPick.{marked}
use Rattle.cdc_memory.specs.Replay.{at_rest, after_steps}
use Rattle.cdc_memory.proofs.crash.mark.Given as goal

-- the first bytes are marked
abbrev pub invariant-loop-byte : goal.invariant-loop-byte
invariant-loop-byte l = record {
  count : l.place ≡ l.byte-index;
  size : length l.left.bytes.items ≡ l.byte-index;
  room : l.left.room ≡ l.fn.left.room;
  bytes : (image : Image) → l.left.bytes.items ≡ marked l.value 0 l.synced ((after_steps (at_rest image) l.history.steps.items).pending l.file) (take l.byte-index l.seen);
}
