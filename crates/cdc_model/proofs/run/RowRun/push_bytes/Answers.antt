use Rattle.std.proofs.Common.{◌∙◌, ◌++◌, ◌∷◌, [], List, ap, arith}
use Rattle.cdc_model.specs.Row.{Row}
use Rattle.cdc_model.proofs.RunRows.{few, run_is, run_more, rows_are, spelled_row}
use Rattle.cdc_model.proofs.run.RowRun.push_bytes.Goals as goal

pub overflow_add-self : goal.overflow_add-self
overflow_add-self c = omega (arith, few _ _ _ c.self.invariant, c.len-before.type_inv, c.len-before.ensures)

pub invariant_of-self : goal.invariant_of-self
invariant_of-self c =
    let spells = c.requires.1 in
    run_is _ _ _
    (run_more _ _ _ (c.args.kind, c.requires.0) _ c.self.invariant spells.row (spelled_row _ _ _ _ _ spells c.in-Ok.ensures.ok))

pub returns-in-Ok-clause-ok : goal.returns-in-Ok-clause-ok
returns-in-Ok-clause-ok c = λ body spells.
    rows_are _ _ _ (run_more _ _ _ (c.args.kind, body) _ c.self.invariant spells.row (spelled_row _ _ _ _ _ spells c.in-Ok.ensures.ok))
    ∙ ap (λ (rows : List Row). rows ++ (c.args.kind, body) ∷ []) c.self.view_is
