use Rattle.std.proofs.Common.{◌<◌, Option, refl, sym, ◌∙◌, ap, subst, arith}
use Rattle.cdc_model.specs.Records.{Transaction}
use Rattle.cdc_merger.specs.Merging.{Merging, Merges, GivesNext}
use Rattle.cdc_merge_stage.specs.Making.{MakerState, Makes, MakesNext}
use Rattle.cdc_merge_stage.proofs.Credits.{gave_within}
use Rattle.cdc_merge_stage.proofs.GivenFront.{gave_front}
use Rattle.cdc_merge_stage.proofs.MakerSteps.{made_next, made_nothing}
use Rattle.cdc_merge_stage.proofs.maker.Maker.make.Goals as goal

pub returns-then-self-eq0-clause-next : goal.returns-then-self-eq0-clause-next
returns-then-self-eq0-clause-next g c start feeds gave has =
    (made_nothing c.args.self.now start feeds gave has (sym (ap (λ (s : MakerState). s.credit) c.self.view_is) ∙ c.if-self-eq0.true), has)

pub returns-in-Ok-Some-clause-next : goal.returns-in-Ok-Some-clause-next
returns-in-Ok-Some-clause-next g c start feeds gave has =
    let h = subst (λ (s : MakerState). Makes s start feeds gave) (sym c.self.view_is) has in
    let some : 0 < c.self.inside.credit = (let never = c.if-self-eq0.false in omega (arith, never)) in
    let counted = h.counted in
    let few = h.few (omega (arith, some, counted)) in
    let within = gave_within c.self.inside.merger start.count start.last feeds gave h.merges in
    let gives = c.in-Ok-Some.ensures.gives start.count start.last feeds gave h.merges (omega (arith, few, within)) in
    let merges = subst (λ (answer : Option Transaction). GivesNext c.self.inside.merger c.next.new.self start.count start.last feeds gave answer) c.in-Ok-Some.field-0-is gives in
    subst (λ (s : MakerState). MakesNext s c.print.new.self start feeds gave c.print.result) c.self.view_is
    (made_next _ _ c.print.new.self start feeds gave c.in-Ok-Some.txn c.print.result h refl refl refl refl refl merges c.print.ensures.made c.print.ensures.merger c.print.ensures.same)

pub returns-in-Ok-None-clause-next : goal.returns-in-Ok-None-clause-next
returns-in-Ok-None-clause-next g c start feeds gave has =
    let h = subst (λ (s : MakerState). Makes s start feeds gave) (sym c.self.view_is) has in
    let some : 0 < c.self.inside.credit = (let never = c.if-self-eq0.false in omega (arith, never)) in
    let counted = h.counted in
    let few = h.few (omega (arith, some, counted)) in
    let within = gave_within c.self.inside.merger start.count start.last feeds gave h.merges in
    let gives = c.in-Ok-None.ensures.gives start.count start.last feeds gave h.merges (omega (arith, few, within)) in
    let none = subst (λ (answer : Option Transaction). GivesNext c.self.inside.merger c.next.new.self start.count start.last feeds gave answer) c.in-Ok-None.field-0-is gives in
    (none.0, record { merges = subst (λ (m : Merging). Merges m start.count start.last feeds gave) (sym none.1) h.merges; stands = h.stands; fits = h.fits; counted = h.counted; few = h.few })

pub returns-in-Err-clause-next : goal.returns-in-Err-clause-next
returns-in-Err-clause-next g c start feeds gave has =
    let h = subst (λ (s : MakerState). Makes s start feeds gave) (sym c.self.view_is) has in
    gave_front c.self.inside.merger start.count start.last feeds gave h.merges
