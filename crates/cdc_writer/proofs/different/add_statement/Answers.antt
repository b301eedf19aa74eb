use Rattle.std.proofs.Common.{Some, ap, sym, subst, ◌∙◌}
use Rattle.std.specs.List.{AllByRecursion}
use Rattle.cdc_writer.specs.Statements.{IsShort, told, with_statement}
use Rattle.cdc_writer.proofs.StatementsOnce.{short_of}
use Rattle.cdc_writer.proofs.StatementSets.{inserted, short_with}
use Rattle.cdc_writer.proofs.different.add_statement.Goals as goal

pub returns-in_ok-insert-clause-ok : goal.returns-in_ok-insert-clause-ok
returns-in_ok-insert-clause-ok c =
    rw (← c.branch.view_is)
    (ap told c.in_ok-insert.ensures.keys
    ∙ inserted (c.in-Some.statement.database, c.in-Some.statement.text) c.args.into.now.keys
    ∙ ap (λ statement. with_statement statement (told c.args.into.now.keys)) c.in-Some.ensures)

pub returns-in_ok-insert-clause-short : goal.returns-in_ok-insert-clause-short
returns-in_ok-insert-clause-short c all =
    let short = short_of c.branch.inside.rows c.branch.invariant.rows (c.in-Some.statement.database.now, c.in-Some.statement.text.now) c.in-Some.ensures in
    let kept = ap told c.in_ok-insert.ensures.keys ∙ inserted (c.in-Some.statement.database, c.in-Some.statement.text) c.args.into.now.keys in
    subst (AllByRecursion IsShort) (sym kept) (short_with (Some (c.in-Some.statement.database.now, c.in-Some.statement.text.now)) (told c.args.into.now.keys) all short)
