-- What a source tells, and what a read gives. Files are counted from 1, bytes from 0.
use Rattle.std.specs.Prelude.{◌≡◌, ℕ, ◌+◌, ◌-◌, ◌^◌, min, ◌≤◌, ◌⊎◌, ◌↔◌, List, [], Option, Some, None, length, take, drop, slice_index, if◌then◌else◌}
use Rattle.std.specs.Prelude.{slice_index_or, ◌==◌, ◌&&◌, ◌||◌, nat_lt}
use Rattle.cdc_base.specs.declared.place.Place.{Place}

-- a file's bytes
abbrev pub file_of : List (List ℕ) → ℕ → List ℕ
file_of files file = slice_index_or files (file - 1) []

-- a file's number
abbrev pub size_of : List ℕ → ℕ → ℕ
size_of sizes file = slice_index sizes (file - 1)

-- the first of two places, by file, then byte
abbrev pub earlier_place : Place → Place → Place
earlier_place place other = if nat_lt place.file other.file || (place.file == other.file && nat_lt place.at other.at) then place else other

-- the least place asked for, with one more
abbrev pub lowered : Option Place → ℕ → ℕ → Option Place
lowered None file at = Some record { file = file; at = at }
lowered (Some lowest) file at = Some (earlier_place record { file = file; at = at } lowest)

-- the later of two places, by file, then byte
abbrev pub later_place : Place → Place → Place
later_place place other = if nat_lt other.file place.file || (place.file == other.file && nat_lt other.at place.at) then place else other

-- the greatest place asked for, with one more
abbrev pub raised : Option Place → ℕ → ℕ → Option Place
raised None file at = Some record { file = file; at = at }
raised (Some highest) file at = Some (later_place record { file = file; at = at } highest)

-- the place behind so many bytes from a byte on; a place's greatest byte where there is none behind them
abbrev pub behind : ℕ → ℕ → ℕ
behind at count = min (at + count) (2 ^ 64 - 1)

-- nothing past this place was asked for: beside it, what was asked for is the same as before
abbrev pub NothingPast : ℕ → ℕ → Option Place → Option Place → Type 0
NothingPast file at before now = raised now file at ≡ raised before file at

-- either nothing was asked for, or places from this one on in its file
abbrev pub LoweredTo : Option Place → ℕ → ℕ → Option Place → Type 0
LoweredTo before file at now = (now ≡ before) ⊎ (now ≡ lowered before file at)

-- a read of some bytes, from the byte at on, at the front of the buffer
pub record ReadsFile (file : List ℕ) (at : ℕ) (buffer : List ℕ) (read : ℕ) : Type 0 where
  pub bytes : take read buffer ≡ take read (drop at file)
  pub there : read ≤ length file - at
  pub none : (read ≡ 0) ↔ ((length file ≤ at) ⊎ (length buffer ≡ 0))
