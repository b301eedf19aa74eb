use Rattle.std.proofs.Common.{sym, subst}
use Rattle.cdc_rename.specs.Names.{IsOrdered}
use Rattle.cdc_rename.proofs.Rules.{ordered_none}
use Rattle.cdc_rename.proofs.names.Names.new.Goals as goal

pub invariant_of-result : goal.invariant_of-result
invariant_of-result c = subst IsOrdered (sym c.new.ensures.items) ordered_none
