use Rattle.std.proofs.Common.{◌≡◌, ℕ, ◌<◌, [], length, get_or}
use Rattle.cdc_memory.specs.declared.mem_file.MemFile.{MemFile}
use Rattle.cdc_memory.proofs.disk_files.DiskFiles.new.Given as goal

-- so many files so far, all of them empty and of one room
abbrev pub invariant-loop : goal.invariant-loop
invariant-loop l = record {
  number : length l.files.items ≡ l.counter;
  rooms : (place : ℕ) (other : MemFile) → place < length l.files.items → (get_or l.files.items place other).room ≡ l.room;
  empty : (place : ℕ) (other : MemFile) → place < length l.files.items → (get_or l.files.items place other).bytes.items ≡ [];
}
