use Rattle.cdc_print.proofs.Complete.{print_is_complete}
use Rattle.cdc_print.proofs.laws.print_is_complete.Goals as goal

pub returns : goal.returns
returns c = print_is_complete
