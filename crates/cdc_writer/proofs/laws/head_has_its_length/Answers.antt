use Rattle.cdc_writer.proofs.HeadBytes.{head_size}
use Rattle.cdc_writer.proofs.laws.head_has_its_length.Goals as goal

pub returns : goal.returns
returns c = head_size
