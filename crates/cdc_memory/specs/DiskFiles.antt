-- The files of a disk in memory, in a list: the two slots, and the logs by their number.
use Rattle.std.specs.Prelude.{ℕ, ◌+◌, List, [], map, slice_index_or}
use Rattle.cdc_outside.specs.declared.disk_file.DiskFile.{DiskFile}
use Rattle.cdc_outside.specs.declared.disk_file.DiskFile.TheVariants.{SlotA, SlotB, Log}
use Rattle.cdc_outside.specs.Disk.{Image}
use Rattle.cdc_memory.specs.declared.mem_file.MemFile.{MemFile}

-- where a file stands in the list
abbrev pub place_of : DiskFile → ℕ
place_of SlotA = 0
place_of SlotB = 1
place_of (Log number) = number + 2

-- the bytes of each, and none of a file that isn't there
abbrev pub content_of : List MemFile → Image
content_of files file = slice_index_or (map (λ it. it.bytes.items) files) (place_of file) []
