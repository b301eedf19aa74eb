use Rattle.std.proofs.Common.{◌≡◌, ℕ, ◌<◌, length, get_or}
use Rattle.cdc_memory.specs.declared.mem_file.MemFile.{MemFile}
use Rattle.cdc_memory.proofs.disk_record.DiskRecord.new.Given as goal

-- so many so far, all of one room
abbrev pub invariant-loop : goal.invariant-loop
invariant-loop l = record {
  number : length l.spare.items ≡ l.counter;
  rooms : (place : ℕ) (other : MemFile) → place < length l.spare.items → (get_or l.spare.items place other).room ≡ l.room;
}
