use Rattle.std.proofs.Common.{◌≡◌, sym, ap, ◌∙◌}
use Rattle.cdc_model.specs.Records.{Transaction}
use Rattle.cdc_writer.proofs.Cases.{alone_counts}
use Rattle.cdc_writer.proofs.length.print_length.Goals as goal

pub returns-then-not-some_statement : goal.returns-then-not-some_statement
returns-then-not-some_statement c =
    let slice : c.as_slice.result.now ≡ c.args.txn.now.branches = c.as_slice.ensures ∙ ap (λ (t : Transaction). t.branches) c.txn.view_is in
    let none = rw slice at c.if-not-some_statement.ensures in
    alone_counts c.args.names.now c.args.txn.now _ (sym none) c.alone_length.ensures

pub with_rows_behind-requires-clause-some : goal.with_rows_behind-requires-clause-some
with_rows_behind-requires-clause-some c =
    let slice : c.as_slice.result.now ≡ c.args.txn.now.branches = c.as_slice.ensures ∙ ap (λ (t : Transaction). t.branches) c.txn.view_is in
    let some = rw slice at c.if-not-some_statement.ensures in
    sym some
