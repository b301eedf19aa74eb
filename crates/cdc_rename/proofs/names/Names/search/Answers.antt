use Rattle.std.proofs.Common.{rules}
use Rattle.std.proofs.lemmas.Fn.{always_returns_same}
use Rattle.cdc_rename.specs.Names.{TableName, table_order, table_of}
use Rattle.cdc_rename.proofs.Rules.{searched}
use Rattle.cdc_rename.proofs.names.Names.search.Goals as goal

-- the closure compares a rule's table with the one asked for
pub returns : goal.returns
returns c =
    let facts = c.binary_search_by.ensures in
    let table : TableName = (c.args.db.now, c.args.table.now) in
    let by_table = facts.position (λ rule. table_order (table_of rule) table) (always_returns_same _ _ _ (λ a r f called. (search rules, search rules))) in
    rw (← c.self.view_is, ← c.deref.ensures.value) (searched _ (rw c.deref.ensures.value c.self.invariant) table _ facts.bound by_table)
