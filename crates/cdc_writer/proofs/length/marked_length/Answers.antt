use Rattle.std.proofs.Common.{arith}
use Rattle.cdc_model.specs.Kept.{transaction_seen}
use Rattle.cdc_writer.proofs.Cases.{marked_parts}
use Rattle.cdc_writer.proofs.length.marked_length.Goals as goal

pub returns : goal.returns
returns c =
    let statements = rw c.as_slice.ensures at c.statements_length.ensures in
    rw (← c.txn.view_is)
    (omega (arith, marked_parts (transaction_seen c.txn.inside), statements, c.mark_length.ensures.length, c.saturating_add.ensures))
