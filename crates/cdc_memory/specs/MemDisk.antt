-- A disk in memory.
use Rattle.std.specs.Prelude.{◌≡◌, ℕ, ◌-◌, nat_lt, nat_le, ◌==◌, ◌||◌, not, ◌&&◌, Bool, false, List, Option, None, Some, length}
use Rattle.cdc_outside.specs.declared.disk_file.DiskFile.{DiskFile}
use Rattle.cdc_outside.specs.declared.disk_file.DiskFile.TheVariants.{Log}
use Rattle.cdc_outside.specs.Disk.{Image, Elapses, same_file}
use Rattle.cdc_memory.specs.Calls.{Calls, counted}
use Rattle.cdc_memory.specs.DiskFiles.{place_of, content_of}
use Rattle.cdc_memory.specs.Replay.{Holding, at_rest, holding_of, LeavesNow, LeavesSince}
use Rattle.cdc_memory.specs.declared.disk_record.DiskStep.{DiskStep}
use Rattle.cdc_memory.specs.declared.mem_disk.MemDisk.{MemDisk}

-- the content that it was made with
abbrev pub start_of : MemDisk → Image
start_of disk = content_of disk.start.files.items

-- what was done to it, the oldest first
abbrev pub steps_of : MemDisk → List DiskStep
steps_of disk = disk.history.steps.items

-- what it holds
abbrev pub held_by : MemDisk → Holding
held_by disk = holding_of (start_of disk) (steps_of disk)

-- its calls so far
abbrev pub disk_calls_of : MemDisk → Calls
disk_calls_of disk = disk.calls

-- the call from which on all fail, where there is one
abbrev pub stop_of : MemDisk → Option ℕ
stop_of disk = disk.stop

-- how many bytes a file may have
abbrev pub file_room_of : MemDisk → ℕ
file_room_of disk = disk.files.room

-- how many changes its record has room for
abbrev pub changes_left : MemDisk → ℕ
changes_left disk = length disk.history.spare.items

-- how many log files it has, and three more
abbrev pub places_of : MemDisk → ℕ
places_of disk = length disk.files.files.items

-- the next call is at or behind the stop
abbrev pub is_stopped : Option ℕ → Calls → Bool
is_stopped None calls = false
is_stopped (Some stop) calls = nat_le stop (counted calls.calls)

-- a file that it has: a slot, or a log from the first one on
abbrev pub has_file : MemDisk → DiskFile → Bool
has_file disk file = nat_lt (place_of file) (places_of disk) && not (same_file (Log 0) file)

-- a change is barred: by the stop, or since the record is full
abbrev pub bars_change : MemDisk → Bool
bars_change disk = is_stopped (stop_of disk) (disk_calls_of disk) || changes_left disk == 0

-- a write is barred besides where there is no such file, and past its room
abbrev pub bars_write : MemDisk → DiskFile → ℕ → ℕ → Bool
bars_write disk file at count = bars_change disk || not (has_file disk file) || nat_lt (file_room_of disk - at) count

-- the same content, record and limits
pub record IsSameDisk (old new : MemDisk) : Type 0 where
  pub start : start_of new ≡ start_of old
  pub steps : steps_of new ≡ steps_of old
  pub left : changes_left new ≡ changes_left old
  pub room : file_room_of new ≡ file_room_of old
  pub places : places_of new ≡ places_of old
  pub stop : stop_of new ≡ stop_of old

-- the same limits
pub record HasSameLimits (old new : MemDisk) : Type 0 where
  pub start : start_of new ≡ start_of old
  pub room : file_room_of new ≡ file_room_of old
  pub places : places_of new ≡ places_of old
  pub stop : stop_of new ≡ stop_of old

-- time goes on from one to the other
abbrev pub GoesOn : MemDisk → MemDisk → Type 0
GoesOn old new = Elapses (length (steps_of old)) (length (steps_of new)) (LeavesSince (at_rest (start_of old)) (steps_of old)) (LeavesSince (at_rest (start_of new)) (steps_of new)) (LeavesNow (held_by new))
