use Rattle.cdc_model.specs.Print.{printed_events}
use Rattle.cdc_writer.proofs.Laid.{laid_size}
use Rattle.cdc_writer.proofs.laws.prints_have_their_length.Goals as goal

pub returns : goal.returns
returns c rules txn at = laid_size at txn.seconds (printed_events rules txn)
