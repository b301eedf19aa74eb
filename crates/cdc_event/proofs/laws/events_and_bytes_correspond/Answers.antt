use Rattle.cdc_event.proofs.Correspondence.{one_event, one_byte_list}
use Rattle.cdc_event.proofs.laws.events_and_bytes_correspond.Goals as goal

pub returns-clause-one_event : goal.returns-clause-one_event
returns-clause-one_event c = one_event

pub returns-clause-one_byte_list : goal.returns-clause-one_byte_list
returns-clause-one_byte_list c = one_byte_list
