-- What is asked of an event that is printed.
use Rattle.std.specs.Prelude.{ℕ, ◌+◌, ◌^◌, ◌<◌, ◌≤◌, IsTrue, List, map}
use Rattle.std.specs.List.{sum_by}
use Rattle.cdc_base.specs.declared.rename.Rename.{Rename}
use Rattle.cdc_event.specs.Event.{FitsBody, has_kind}
use Rattle.cdc_event.specs.Table.{renamed}
use Rattle.cdc_model.specs.Records.{Row}
use Rattle.cdc_model.specs.Print.{row_length}

-- an event of an input log's length or little more, that ends below 2^32 where it stands
pub record IsPrintable (at : ℕ) (event : Row) : Type 0 where
  pub fits : FitsBody event.1
  pub kind : IsTrue (has_kind event.1 event.0)
  pub most : row_length event ≤ 2 ^ 27 + 256
  pub room : at + row_length event < 2 ^ 32

-- the length of events
abbrev pub events_length : List Row → ℕ
events_length events = sum_by row_length events

-- rows with their tables renamed
abbrev pub renamed_rows : List Rename → List Row → List Row
renamed_rows rules rows = map (λ row. (row.0, renamed rules row.1)) rows
