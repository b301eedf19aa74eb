-- A row of a branch.
use Rattle.std.specs.Prelude.{ℕ, ◌+◌, ◌^◌, ◌<◌, ◌≤◌, IsTrue, length}
use Rattle.cdc_event.specs.declared.body.Body.{Body}
use Rattle.cdc_event.specs.Event.{FitsBody, has_kind, body_bytes}

-- a row: an event's type and body
abbrev pub Row : Type 0
Row = ℕ × Body

-- a row is an event of its type of at most 2^27 bytes
pub record IsRow (row : Row) : Type 0 where
  pub fits : FitsBody row.1
  pub kind : IsTrue (has_kind row.1 row.0)
  pub numbered : row.0 < 256
  pub most : 19 + length (body_bytes row.1) ≤ 2 ^ 27
