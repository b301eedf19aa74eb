use Rattle.std.proofs.Common.{◌≡◌, ◌+◌, ◌<◌, ◌^◌, List, ◌++◌, OnOk, sym, ap, subst, ◌∙◌, append-nil}
use Rattle.cdc_model.specs.Records.{Row, Transaction}
use Rattle.cdc_model.specs.Print.{laid}
use Rattle.cdc_writer.specs.Events.{events_length}
use Rattle.cdc_writer.proofs.Cases.{behind_some, behind_none}
use Rattle.cdc_writer.proofs.transaction.put_rows_behind.Goals as goal

pub put_behind-requires : goal.put_behind-requires
put_behind-requires c =
    let slice : c.as_slice.result.now ≡ c.args.txn.now.branches = c.as_slice.ensures ∙ ap (λ (t : Transaction). t.branches) c.txn.view_is in
    let rows = rw slice at c.if-some_rows.ensures in
    let P : List Row → Type 0 = λ events. c.args.at + events_length events < 2 ^ 32 in
    subst P (behind_some c.args.names.now c.args.txn.now (sym rows)) c.requires

pub returns-then-some_rows-clause-ok : goal.returns-then-some_rows-clause-ok
returns-then-some_rows-clause-ok c =
    let slice : c.as_slice.result.now ≡ c.args.txn.now.branches = c.as_slice.ensures ∙ ap (λ (t : Transaction). t.branches) c.txn.view_is in
    let rows = rw slice at c.if-some_rows.ensures in
    let P : List Row → Type 0 = λ events. OnOk c.put_behind.result (c.put_behind.new.into ≡ c.args.into.now ++ laid c.args.at c.args.txn.now.seconds events) in
    subst P (sym (behind_some c.args.names.now c.args.txn.now (sym rows))) c.put_behind.ensures.ok

pub returns-else-some_rows-clause-ok : goal.returns-else-some_rows-clause-ok
returns-else-some_rows-clause-ok c =
    let slice : c.as_slice.result.now ≡ c.args.txn.now.branches = c.as_slice.ensures ∙ ap (λ (t : Transaction). t.branches) c.txn.view_is in
    let rows = rw slice at c.if-some_rows.ensures in
    let none = behind_none c.args.names.now c.args.txn.now (sym rows) in
    sym (ap (λ events. c.args.into.now ++ laid c.args.at c.args.txn.now.seconds events) none ∙ append-nil c.args.into.now)
