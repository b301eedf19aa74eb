use Rattle.std.proofs.Common.{◌∙◌, sym}
use Rattle.cdc_model.proofs.RunRows.{next_of, first_within}
use Rattle.cdc_model.proofs.row_view.Rows.next.Goals as goal

pub cut_first-cut-requires-clause-long : goal.cut_first-cut-requires-clause-long
cut_first-cut-requires-clause-long c = (first_within _ _ c.if-self-eq0.false c.self.invariant).0

pub cut_first-cut-requires-clause-whole : goal.cut_first-cut-requires-clause-whole
cut_first-cut-requires-clause-whole c = (first_within _ _ c.if-self-eq0.false c.self.invariant).1

pub invariant_of-result : goal.invariant_of-result
invariant_of-result c =
    (next_of _ _ _ _ _ c.if-self-eq0.false c.self.invariant c.cut_first-cut.ensures.kind c.cut_first-cut.ensures.own c.cut_first-cut.ensures.behind).spells

pub invariant_of-self : goal.invariant_of-self
invariant_of-self c =
    (next_of _ _ _ _ _ c.if-self-eq0.false c.self.invariant c.cut_first-cut.ensures.kind c.cut_first-cut.ensures.own c.cut_first-cut.ensures.behind).rest

pub returns-clause-some : goal.returns-clause-some
returns-clause-some c =
    sym c.self.view_is
    ∙ (next_of _ _ _ _ _ c.if-self-eq0.false c.self.invariant c.cut_first-cut.ensures.kind c.cut_first-cut.ensures.own c.cut_first-cut.ensures.behind).first
