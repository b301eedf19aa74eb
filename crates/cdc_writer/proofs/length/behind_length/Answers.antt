use Rattle.std.proofs.Common.{arith}
use Rattle.cdc_model.specs.Kept.{transaction_seen}
use Rattle.cdc_writer.proofs.Cases.{behind_size}
use Rattle.cdc_writer.proofs.length.behind_length.Goals as goal

pub returns : goal.returns
returns c =
    let rows = rw c.as_slice.ensures at c.branches_length.ensures in
    rw (← c.txn.view_is)
    (omega (arith, behind_size c.args.names.now (transaction_seen c.txn.inside), rows, c.saturating_add.ensures))
