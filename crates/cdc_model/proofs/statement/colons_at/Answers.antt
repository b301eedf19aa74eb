use Rattle.std.proofs.Common.{sym, ◌∙◌}
use Rattle.cdc_model.proofs.Colons.{split_step, split_here, rest_whole}
use Rattle.cdc_model.proofs.statement.colons_at.Goals as goal

pub returns-then-starts_with-clause-split : goal.returns-then-starts_with-clause-split
returns-then-starts_with-clause-split c =
    let here = rw (rest_whole c.args.text.now c.loop-at.at) at c.if-starts_with.ensures.value in
    sym (split_here c.args.text.now c.loop-at.at (sym here)) ∙ c.loop-at.invariant

pub loop-at-preserved : goal.loop-at-preserved
loop-at-preserved c =
    let not_here = rw (rest_whole c.args.text.now c.loop-at.at) at c.if-starts_with.ensures.value in
    sym (split_step c.args.text.now c.loop-at.at c.loop-at-test.true (sym not_here)) ∙ c.loop-at.invariant
