use Rattle.cdc_query.proofs.Back.{reads_back}
use Rattle.cdc_query.proofs.write.canonical_text_is_read.Goals as goal

pub returns : goal.returns
returns c = reads_back
