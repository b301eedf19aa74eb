use Rattle.std.proofs.Common.{◌≡◌, ◌<◌, ℕ, length, get_or}
use Rattle.cdc_outside.specs.declared.disk_file.DiskFile.{DiskFile}
use Rattle.cdc_memory.specs.CrashPick.{picked}
use Rattle.cdc_memory.specs.DiskFiles.{place_of}
use Rattle.cdc_memory.specs.MemDisk.{held_by}
use Rattle.cdc_memory.specs.declared.mem_file.MemFile.{MemFile}
use Rattle.cdc_memory.proofs.mem_disk.MemDisk.left_by_crash.Given as goal

-- so many files so far, each as it is picked
abbrev pub invariant-loop-place : goal.invariant-loop-place
invariant-loop-place l = record {
  number : length l.left.files.items ≡ l.place;
  room : l.left.room ≡ l.self.files.room;
  done : (k : ℕ) (other : MemFile) (file : DiskFile) → k < l.place → place_of file ≡ k → (get_or l.left.files.items k other).bytes.items ≡ picked l.pick (held_by l.self) file;
}
