use Rattle.std.proofs.Common.{sym, arith}
use Rattle.cdc_rename.proofs.Maps.{renamed_size}
use Rattle.cdc_rename.proofs.table.renamed_view_length.Goals as goal

pub returns-in-Some-clause-some : goal.returns-in-Some-clause-some
returns-in-Some-clause-some c =
    let size = renamed_size c.args.names.now c.in-TableMap.table c.in-TableMap.flags c.in-TableMap.db.now c.in-TableMap.name.now c.in-TableMap.rest.now c.in-Some.rule.now (sym c.in-Some.ensures.rule) in
    rw c.in-TableMap.is (omega (arith, size, c.map_length.ensures))
