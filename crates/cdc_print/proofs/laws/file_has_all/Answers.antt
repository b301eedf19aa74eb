use Rattle.cdc_print.proofs.Complete.{file_has_all}
use Rattle.cdc_print.proofs.laws.file_has_all.Goals as goal

pub returns : goal.returns
returns c = file_has_all c.one_file_ends.ensures c.head_has_its_length.ensures
