use Rattle.cdc_event.proofs.Correspondence.{one_fault, format_by_fields}
use Rattle.cdc_event.proofs.laws.faults_are_told_apart.Goals as goal

pub returns-clause-one_fault : goal.returns-clause-one_fault
returns-clause-one_fault c = one_fault

pub returns-clause-format : goal.returns-clause-format
returns-clause-format c = format_by_fields
