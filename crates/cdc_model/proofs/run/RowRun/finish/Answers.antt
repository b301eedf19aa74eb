use Rattle.cdc_model.proofs.RunRows.{none_rows, none_run}
use Rattle.cdc_model.proofs.run.RowRun.finish.Goals as goal

pub invariant_of-self-2 : goal.invariant_of-self-2
invariant_of-self-2 c = none_run c.give_bytes.new.bytes c.in_ok-bytes.ensures.empty

pub returns-clause-empty : goal.returns-clause-empty
returns-clause-empty c = none_rows c.give_bytes.new.bytes
