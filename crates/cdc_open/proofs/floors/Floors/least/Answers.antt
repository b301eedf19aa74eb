use Rattle.std.proofs.Common.{◌∙◌, sym, subst, ℕ, List}
use Rattle.cdc_model.proofs.SameXid.{no_test}
use Rattle.cdc_open.specs.Floors.{TellsTimes}
use Rattle.cdc_open.proofs.Counts.{least_first, least_none, empty_of}
use Rattle.cdc_open.proofs.floors.Floors.least.Goals as goal

pub returns-in-Some : goal.returns-in-Some
returns-in-Some c =
    let counts = c.self.inside.counts.entries in
    λ floors tells.
    c.min.ensures
    ∙ least_first counts c.args.mark c.in-Some.floor.now c.in-Some.field-0-1.now floors c.in-Some.ensures.value c.in-Some.ensures.least
    (subst (λ (list : List (ℕ × ℕ)). TellsTimes list floors) (sym c.self.view_is) tells)

pub returns-in-None : goal.returns-in-None
returns-in-None c =
    λ floors tells.
    least_none c.args.self.now c.args.mark floors
    (sym c.self.view_is ∙ empty_of c.self.inside.counts.entries (λ h. no_test (c.in-None.ensures.variant.1 h))) tells
