-- Bytes that are gathered before they are written.
use Rattle.std.specs.Prelude.{◌≡◌, ℕ, ◌+◌, ◌≤◌, ◌⊎◌, List, [], length}
use Rattle.cdc_outside.specs.declared.disk_file.DiskFile.{DiskFile}

-- so many bytes from a place of a file on can be gathered with those of another: there is room for them, and they stand right
-- behind those, or there are none
pub record GoesBehind (kept : DiskFile) (at : ℕ) (bytes : List ℕ) (file : DiskFile) (place count : ℕ) : Type 0 where
  pub room : length bytes + count ≤ 65536
  pub behind : (bytes ≡ []) ⊎ ((kept ≡ file) × (place ≡ at + length bytes))
