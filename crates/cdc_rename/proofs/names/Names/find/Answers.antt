use Rattle.std.proofs.Common.{◌≡◌, get_or, Some, sym, ap, subst, ◌∙◌}
use Rattle.cdc_rename.specs.Names.{IsOrdered, IsRule}
use Rattle.cdc_rename.proofs.Ordered.{all_at}
use Rattle.cdc_rename.proofs.Rules.{answers_at, answers_none}
use Rattle.cdc_rename.proofs.names.Names.find.Goals as goal

pub returns-in-Ok-clause-names : goal.returns-in-Ok-clause-names
returns-in-Ok-clause-names c =
    let within = rw (← c.self.view_is) at c.in-Ok.ensures.found.0 in
    subst IsRule (sym c.index.ensures) (all_at IsRule _ _ c.index.result.now c.self.invariant.texts within)

pub returns-in-Ok-clause-rule : goal.returns-in-Ok-clause-rule
returns-in-Ok-clause-rule c =
    let ordered = subst IsOrdered c.self.view_is c.self.invariant in
    let answer = answers_at c.args.self.now ordered c.args.db.now c.args.table.now _ c.in-Ok.ensures.found c.index.result.now in
    let read : c.index.result.now ≡ get_or c.args.self.now c.in-Ok.at c.index.result.now = rw c.self.view_is at c.index.ensures in
    sym (answer ∙ ap Some (sym read))

pub returns-in-Err-clause-rule : goal.returns-in-Err-clause-rule
returns-in-Err-clause-rule c = sym (answers_none _ _ _ _ c.in-Err.ensures.absent)
