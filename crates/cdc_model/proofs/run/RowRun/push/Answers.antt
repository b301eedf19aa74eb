use Rattle.std.proofs.Common.{◌∙◌, ◌++◌, ◌∷◌, [], List, ap, arith}
use Rattle.cdc_model.specs.Row.{Row}
use Rattle.cdc_model.proofs.RunRows.{few, run_is, run_more, rows_are}
use Rattle.cdc_model.proofs.run.RowRun.push.Goals as goal

pub overflow_add-self : goal.overflow_add-self
overflow_add-self c = omega (arith, few _ _ _ c.self.invariant, c.len-before.type_inv, c.len-before.ensures)

pub invariant_of-self : goal.invariant_of-self
invariant_of-self c = run_is _ _ _ (run_more _ _ _ (c.args.kind, c.args.body.now) _ c.self.invariant c.requires c.in-Ok.ensures.ok)

pub returns-in-Ok-clause-ok : goal.returns-in-Ok-clause-ok
returns-in-Ok-clause-ok c =
    rows_are _ _ _ (run_more _ _ _ (c.args.kind, c.args.body.now) _ c.self.invariant c.requires c.in-Ok.ensures.ok)
    ∙ ap (λ (rows : List Row). rows ++ (c.args.kind, c.args.body.now) ∷ []) c.self.view_is
