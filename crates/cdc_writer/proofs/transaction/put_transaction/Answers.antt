use Rattle.std.proofs.Common.{◌≡◌, ◌+◌, ◌<◌, ◌^◌, List, ◌++◌, OnOk, not, sym, ap, subst, ◌∙◌, arith}
use Rattle.cdc_model.specs.Records.{Row}
use Rattle.cdc_model.specs.Print.{laid}
use Rattle.cdc_writer.specs.Events.{events_length}
use Rattle.cdc_writer.proofs.Laid.{on_ok}
use Rattle.cdc_writer.proofs.Cases.{printed_alone, printed_parts, marked_laid}
use Rattle.cdc_writer.proofs.StatementSets.{has_told}
use Rattle.cdc_writer.proofs.transaction.put_transaction.Goals as goal

pub put_alone-requires : goal.put_alone-requires
put_alone-requires c =
    let none = has_told c.args.statements.now c.args.txn.now.branches c.requires.statements ∙ ap not (sym c.if-is_empty.ensures) in
    let P : List Row → Type 0 = λ events. c.args.at + events_length events < 2 ^ 32 in
    subst P (printed_alone c.args.names.now c.args.txn.now none) c.requires.room

pub put_marked-requires-clause-room : goal.put_marked-requires-clause-room
put_marked-requires-clause-room c =
    let some = has_told c.args.statements.now c.args.txn.now.branches c.requires.statements ∙ ap not (sym c.if-is_empty.ensures) in
    omega (arith, printed_parts c.args.names.now c.args.txn.now some, c.requires.room)

pub put_rows_behind-requires : goal.put_rows_behind-requires
put_rows_behind-requires c =
    let some = has_told c.args.statements.now c.args.txn.now.branches c.requires.statements ∙ ap not (sym c.if-is_empty.ensures) in
    omega (arith, printed_parts c.args.names.now c.args.txn.now some, c.in_ok-rows.ensures.next, c.requires.room)

pub returns-in_ok-rows-clause-ok : goal.returns-in_ok-rows-clause-ok
returns-in_ok-rows-clause-ok c =
    let some = has_told c.args.statements.now c.args.txn.now.branches c.requires.statements ∙ ap not (sym c.if-is_empty.ensures) in
    on_ok _ (marked_laid c.args.names.now c.args.txn.now c.args.into.now _ _ c.args.at _ some c.in_ok-rows.ensures.ok c.in_ok-rows.ensures.next) c.put_rows_behind.ensures.ok

pub returns-then-is_empty-clause-ok : goal.returns-then-is_empty-clause-ok
returns-then-is_empty-clause-ok c =
    let none = has_told c.args.statements.now c.args.txn.now.branches c.requires.statements ∙ ap not (sym c.if-is_empty.ensures) in
    let P : List Row → Type 0 = λ events. OnOk c.put_alone.result (c.put_alone.new.into ≡ c.args.into.now ++ laid c.args.at c.args.txn.now.seconds events) in
    subst P (sym (printed_alone c.args.names.now c.args.txn.now none)) c.put_alone.ensures.ok
