use Rattle.cdc_model.proofs.CommitLaws.{one_entry_more}
use Rattle.cdc_model.proofs.entry_laws.one_entry_more.Goals as goal

pub returns : goal.returns
returns c = one_entry_more
