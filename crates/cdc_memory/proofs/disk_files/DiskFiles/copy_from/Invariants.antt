use Rattle.std.proofs.Common.{◌≡◌, ℕ, ◌<◌, length, get_or}
use Rattle.cdc_memory.specs.declared.mem_file.MemFile.{MemFile}
use Rattle.cdc_memory.proofs.disk_files.DiskFiles.copy_from.Given as goal

-- the files so far have the others' bytes
abbrev pub invariant-loop-place : goal.invariant-loop-place
invariant-loop-place l = record {
  number : length l.self.files.items ≡ length l.fn.self.files.items;
  room : l.self.room ≡ l.fn.self.room;
  copied : (k : ℕ) (one two : MemFile) → k < l.place → (get_or l.self.files.items k one).bytes.items ≡ (get_or l.other.files.items k two).bytes.items;
}
