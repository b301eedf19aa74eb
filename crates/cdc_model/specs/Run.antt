-- Rows as one run of bytes: of each row its type, the length of its body in four bytes, and its body.
use Rattle.std.specs.Prelude.{◌≡◌, ℕ, zero, suc, ◌+◌, ◌==◌, List, [], ◌∷◌, ◌++◌, length, take, drop, slice_index, if◌then◌else◌, Option, Some, None}
use Rattle.std.specs.List.{AllByRecursion}
use Rattle.cdc_event.specs.declared.body.Body.{Body}
use Rattle.cdc_event.specs.declared.body.Body.TheVariants.{Skipped}
use Rattle.cdc_event.specs.Number.{low_first, number_of}
use Rattle.cdc_event.specs.Event.{body_bytes}
use Rattle.cdc_event.specs.Reading.{format_body_of, body_at}
use Rattle.cdc_model.specs.Row.{Row, IsRow}

-- a row's bytes in a run
abbrev pub row_bytes : Row → List ℕ
row_bytes row = row.0 ∷ (low_first 4 (length (body_bytes row.1)) ++ body_bytes row.1)

-- rows one behind another
abbrev pub run_bytes : List Row → List ℕ
run_bytes [] = []
run_bytes (row ∷ rows) = row_bytes row ++ run_bytes rows

-- a body that was read, or the bytes unread
abbrev pub body_or : List ℕ → Option Body → Body
body_or bytes (Some body) = body
body_or bytes None = Skipped bytes

-- the body of a type that these bytes are; a format event's is read whatever its algorithm is
unfoldable pub run_body : ℕ → List ℕ → Body
run_body kind bytes = if kind == 15 then format_body_of bytes else body_or bytes (body_at kind bytes)

-- so many rows, read from the front of a run
unfoldable pub run_rows : ℕ → List ℕ → List Row
run_rows zero bytes = []
run_rows (suc count) [] = []
run_rows (suc count) (kind ∷ bytes) =
    (kind, run_body kind (take (number_of (take 4 bytes)) (drop 4 bytes)))
    ∷ run_rows count (drop (number_of (take 4 bytes)) (drop 4 bytes))

-- these bytes are the run of these rows, so many
pub record IsRun (count : ℕ) (bytes : List ℕ) (rows : List Row) : Type 0 where
  pub counted : count ≡ length rows
  pub spelled : bytes ≡ run_bytes rows
  pub all : AllByRecursion IsRow rows

-- these bytes are a row's body of this type
pub record SpellsRow (kind : ℕ) (bytes : List ℕ) (body : Body) : Type 0 where
  pub row : IsRow (kind, body)
  pub spelled : bytes ≡ body_bytes body

-- the row of a type and a body's bytes
abbrev pub seen_row : ℕ → List ℕ → Row
seen_row kind bytes = (kind, run_body kind bytes)

-- ---- the first row of a run

-- the first row's type
abbrev pub first_kind : List ℕ → ℕ
first_kind bytes = slice_index bytes 0

-- how many bytes the first row's body has
abbrev pub first_length : List ℕ → ℕ
first_length bytes = number_of (take 4 (drop 1 bytes))

-- the bytes of the first row's body
abbrev pub first_own : List ℕ → List ℕ
first_own bytes = take (first_length bytes) (drop 5 bytes)

-- what stands behind the first row
abbrev pub first_behind : List ℕ → List ℕ
first_behind bytes = drop (first_length bytes) (drop 5 bytes)
