use Rattle.cdc_model.proofs.RunRows.{none_rows, none_run}
use Rattle.cdc_model.proofs.run.RowRun.clear.Goals as goal

pub invariant_of-self : goal.invariant_of-self
invariant_of-self c = none_run c.truncate.new.self c.truncate.ensures

pub returns : goal.returns
returns c = none_rows c.truncate.new.self
