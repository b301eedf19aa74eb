use Rattle.std.proofs.Common.{not, sym, ap, ◌∙◌, arith}
use Rattle.cdc_model.specs.Kept.{transaction_seen}
use Rattle.cdc_writer.proofs.Cases.{alone_counts, marked_parts}
use Rattle.cdc_writer.proofs.StatementSets.{has_told}
use Rattle.cdc_writer.proofs.length.length_with.Goals as goal

pub returns-then-is_empty : goal.returns-then-is_empty
returns-then-is_empty c =
    alone_counts c.args.names.now c.args.txn.now _ (has_told c.args.statements.now c.args.txn.now.branches c.requires ∙ ap not (sym c.if-is_empty.ensures)) c.alone_length.ensures

pub with_rows_behind-requires-clause-some : goal.with_rows_behind-requires-clause-some
with_rows_behind-requires-clause-some c =
    has_told c.args.statements.now c.args.txn.now.branches c.requires ∙ ap not (sym c.if-is_empty.ensures)

pub with_rows_behind-requires-clause-marked : goal.with_rows_behind-requires-clause-marked
with_rows_behind-requires-clause-marked c =
    let statements = rw (c.requires, ← c.txn.view_is) at c.told_length.ensures in
    rw (← c.txn.view_is)
    (omega (arith, marked_parts (transaction_seen c.txn.inside), statements, c.mark_length.ensures.length, c.saturating_add-marked.ensures))
