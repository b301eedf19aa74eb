use Rattle.std.proofs.Common.{◌∙◌, List, min, ap}
use Rattle.std.specs.List.{sum_by}
use Rattle.cdc_model.specs.Row.{Row}
use Rattle.cdc_model.specs.Print.{row_length}
use Rattle.cdc_model.proofs.RunRows.{events_size}
use Rattle.cdc_model.proofs.rows.RowList.events_length.Goals as goal

pub returns : goal.returns
returns c =
    rw (c.saturating_add.ensures, c.saturating_mul.ensures, c.len.ensures)
    (events_size c.self.inside.count c.self.inside.bytes c.self.invariant
    ∙ ap (λ (rows : List Row). min (sum_by row_length rows) 18446744073709551615) c.self.view_is)
