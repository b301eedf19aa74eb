use Rattle.std.proofs.Common.{◌≡◌, sym, ap, ◌∙◌}
use Rattle.cdc_model.specs.Records.{Transaction}
use Rattle.cdc_writer.proofs.Cases.{both_counts, marked_counts}
use Rattle.cdc_writer.proofs.length.with_rows_behind.Goals as goal

pub returns-then-some_rows : goal.returns-then-some_rows
returns-then-some_rows c =
    let slice : c.as_slice.result.now ≡ c.args.txn.now.branches = c.as_slice.ensures ∙ ap (λ (t : Transaction). t.branches) c.txn.view_is in
    let rows = rw slice at c.if-some_rows.ensures in
    both_counts c.args.names.now c.args.txn.now _ _ _ c.requires.some (sym rows) c.requires.marked c.behind_length.ensures c.saturating_add.ensures

pub returns-else-some_rows : goal.returns-else-some_rows
returns-else-some_rows c =
    let slice : c.as_slice.result.now ≡ c.args.txn.now.branches = c.as_slice.ensures ∙ ap (λ (t : Transaction). t.branches) c.txn.view_is in
    let rows = rw slice at c.if-some_rows.ensures in
    marked_counts c.args.names.now c.args.txn.now _ c.requires.some (sym rows) c.requires.marked
