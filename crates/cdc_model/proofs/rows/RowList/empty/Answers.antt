use Rattle.cdc_model.proofs.RunRows.{none_rows, none_run}
use Rattle.cdc_model.proofs.rows.RowList.empty.Goals as goal

pub invariant_of-result : goal.invariant_of-result
invariant_of-result c = none_run c.empty.result c.empty.ensures

pub returns : goal.returns
returns c = none_rows c.empty.result
