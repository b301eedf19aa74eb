use Rattle.cdc_model.proofs.RunRows.{none_rows, none_run}
use Rattle.cdc_model.proofs.run.RowRun.new.Goals as goal

pub invariant_of-result : goal.invariant_of-result
invariant_of-result c = none_run c.new.result c.new.ensures

pub returns : goal.returns
returns c = none_rows c.new.result
