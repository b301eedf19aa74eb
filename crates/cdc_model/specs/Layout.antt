-- Where the next transaction goes, by where the output stands.
use Rattle.std.specs.Prelude.{ℕ, ◌+◌, ◌^◌, ◌==◌, ◌<◌, ◌≤◌, ◌||◌, not, Bool, IsTrue, if◌then◌else◌}
use Rattle.cdc_model.specs.declared.layout.Layout.{Layout}

-- it begins a file where none is open: the last one is closed, or there is none yet
abbrev pub begins_file : Layout → Bool
begins_file layout = layout.closed || layout.file == 0

-- the number of the file that it goes to
abbrev pub next_file : Layout → ℕ
next_file layout = if begins_file layout then layout.file + 1 else layout.file

-- the place where it begins there, its file's head included
abbrev pub next_place : Layout → ℕ
next_place layout = if begins_file layout then 0 else layout.length

-- a rotation size: the length in bytes from which on a file is closed
abbrev pub IsRotation : ℕ → Type 0
IsRotation size = (256 ≤ size) × (size ≤ 2 ^ 30)

-- a layout behind which there is room for a transaction
pub record HasRoom (layout : Layout) : Type 0 where
  pub file : layout.file < 2 ^ 63
  pub size : IsTrue (not layout.closed) → layout.length < 2 ^ 30
