use Rattle.std.proofs.Common.{◌≡◌, ap, sym, ◌∙◌}
use Rattle.std.specs.Ordering.{is_eq}
use Rattle.cdc_merger.proofs.Gathering.{is_same, is_other}
use Rattle.cdc_merger.proofs.head.Head.is_key.Goals as goal

pub returns-clause-same : goal.returns-clause-same
returns-clause-same c = λ whole.
    let view : c.self.inside.key ≡ c.args.self.now = c.self.view_is in
    sym view ∙ is_same c.self.inside.key c.args.key.now c.is_eq.result (c.is_eq.ensures ∙ ap is_eq c.key_cmp.ensures) whole

pub returns-clause-other : goal.returns-clause-other
returns-clause-other c = λ differs same.
    let view : c.self.inside.key ≡ c.args.self.now = c.self.view_is in
    is_other c.self.inside.key c.args.key.now c.is_eq.result (c.is_eq.ensures ∙ ap is_eq c.key_cmp.ensures) differs (view ∙ same)
