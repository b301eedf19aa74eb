use Rattle.std.proofs.Common.{sym, arith}
use Rattle.cdc_model.specs.Kept.{branch_seen}
use Rattle.cdc_writer.proofs.StatementsOnce.{new_size}
use Rattle.cdc_writer.proofs.length.statement_length.Goals as goal

pub returns : goal.returns
returns c =
    let size = new_size c.args.before.now (branch_seen c.branch.inside) (c.in-Some.statement.database.now, c.in-Some.statement.text.now) c.in-Some.ensures (sym c.if-is_among.ensures) in
    rw (← c.branch.view_is) (omega (arith, size, c.saturating_add.ensures, c.saturating_add-2.ensures))
