-- Four outcomes of a crash, of all that the model allows.
use Rattle.std.specs.Prelude.{ℕ, ◌+◌, ◌%◌, ◌==◌, ◌||◌, nat_le, List, [], ◌∷◌, length, take, if◌then◌else◌}
use Rattle.cdc_outside.specs.Disk.{Image, Change, shortest, is_written}
use Rattle.cdc_memory.specs.Replay.{Holding}

-- the bytes from a place on, with a value for each that was written since the last sync, or that the file got since
abbrev pub marked : ℕ → ℕ → ℕ → List Change → List ℕ → List ℕ
marked value place synced changes [] = []
marked value place synced changes (byte ∷ bytes) = (if is_written place changes || nat_le synced place then value else byte) ∷ marked value (place + 1) synced changes bytes

-- 0: what the last sync has, cut to the least length since; 1: what is seen; 2 and 3: what is seen, marked by a5 or by 01
abbrev pub crash_pick : ℕ → List ℕ → List Change → List ℕ → List ℕ
crash_pick pick synced changes seen =
    if pick % 4 == 0 then take (shortest (length synced) changes) synced
    else if pick % 4 == 1 then seen
    else if pick % 4 == 2 then marked 165 0 (length synced) changes seen else marked 1 0 (length synced) changes seen

-- of each file
abbrev pub picked : ℕ → Holding → Image
picked pick holding file = crash_pick pick (holding.last_sync file) (holding.pending file) (holding.seen file)
