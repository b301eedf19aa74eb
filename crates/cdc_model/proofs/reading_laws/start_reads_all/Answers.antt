use Rattle.cdc_model.proofs.RestOfLog.{start_reads_all}
use Rattle.cdc_model.proofs.reading_laws.start_reads_all.Goals as goal

pub returns : goal.returns
returns c = start_reads_all
