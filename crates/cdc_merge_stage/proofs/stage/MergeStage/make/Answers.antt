use Rattle.std.proofs.Common.{◌+◌, ◌≤◌, refl, sym, ◌∙◌, ap, subst}
use Rattle.cdc_merge_stage.specs.Merged.{MergeState, MergeDid, stage_with, merge_work, merges_on, all_none}
use Rattle.cdc_merge_stage.specs.declared.merge_end.MergeEnd.TheVariants.{TooLarge, Memory}
use Rattle.cdc_merge_stage.specs.Passing.{MakeCosts}
use Rattle.cdc_merge_stage.proofs.Preparing.{open_end, made_unit, did_nothing, did_too_large, did_memory}
use Rattle.cdc_merge_stage.proofs.Works.{unit_costs, rest_same, rest_ended}
use Rattle.cdc_merge_stage.proofs.stage.MergeStage.make.Goals as goal

pub returns-in-Unit-clause-did : goal.returns-in-Unit-clause-did
returns-in-Unit-clause-did g c window takes gives did =
    made_unit (stage_with c.self.inside.maker c.self.inside.start c.self.inside.behind c.self.inside.took.items c.self.inside.slots.items c.self.inside.closing c.self.inside.end) (stage_with c.make.new.self c.self.inside.start c.self.inside.behind c.self.inside.took.items c.self.inside.slots.items c.self.inside.closing c.self.inside.end) c.fill_all.new.self c.in-Unit.unit c.fill_all.result c.in-Unit.ensures.next refl refl refl refl refl refl c.make.ensures.same.0 c.make.ensures.same.1
    (open_end c.self.inside.end (ap (λ (s : MergeState). merges_on s.end) c.self.view_is ∙ c.requires.merges)) (ap (λ (s : MergeState). all_none s.slots) c.self.view_is ∙ c.requires.none) (ap (λ (s : MergeState). s.closing) c.self.view_is ∙ c.requires.going)
    c.fill_all.ensures.maker c.fill_all.ensures.filled window takes gives (subst (λ (s : MergeState). MergeDid window s takes gives) (sym c.self.view_is) did)

pub returns-in-Unit-clause-cost : goal.returns-in-Unit-clause-cost
returns-in-Unit-clause-cost g c price =
    subst (λ (s : MergeState). MakeCosts s c.fill_all.new.self price c.fill_all.result) c.self.view_is
    (unit_costs (stage_with c.self.inside.maker c.self.inside.start c.self.inside.behind c.self.inside.took.items c.self.inside.slots.items c.self.inside.closing c.self.inside.end) (stage_with c.make.new.self c.self.inside.start c.self.inside.behind c.self.inside.took.items c.self.inside.slots.items c.self.inside.closing c.self.inside.end) c.fill_all.new.self c.in-Unit.unit c.fill_all.result refl refl refl c.in-Unit.ensures.falls
    (ap (λ (s : MergeState). merges_on s.end) c.self.view_is ∙ c.requires.merges) (ap (λ (s : MergeState). all_none s.slots) c.self.view_is ∙ c.requires.none) c.fill_all.ensures.maker c.fill_all.ensures.filled price)

pub returns-in-Nothing-clause-did : goal.returns-in-Nothing-clause-did
returns-in-Nothing-clause-did g c window takes gives did =
    did_nothing (stage_with c.self.inside.maker c.self.inside.start c.self.inside.behind c.self.inside.took.items c.self.inside.slots.items c.self.inside.closing c.self.inside.end) _ refl refl c.make.ensures.same.0 c.make.ensures.same.1 c.in-Nothing.ensures.next
    (open_end c.self.inside.end (ap (λ (s : MergeState). merges_on s.end) c.self.view_is ∙ c.requires.merges)) (open_end c.self.inside.end (ap (λ (s : MergeState). merges_on s.end) c.self.view_is ∙ c.requires.merges)) refl refl refl window takes gives
    (subst (λ (s : MergeState). MergeDid window s takes gives) (sym c.self.view_is) did)

pub returns-in-TooLarge-clause-did : goal.returns-in-TooLarge-clause-did
returns-in-TooLarge-clause-did g c window takes gives did =
    did_too_large (stage_with c.self.inside.maker c.self.inside.start c.self.inside.behind c.self.inside.took.items c.self.inside.slots.items c.self.inside.closing c.self.inside.end) _ refl refl c.make.ensures.same.0 c.make.ensures.same.1 c.in-TooLarge.number c.in-TooLarge.bytes c.in-TooLarge.ensures.next
    (open_end c.self.inside.end (ap (λ (s : MergeState). merges_on s.end) c.self.view_is ∙ c.requires.merges)) refl refl refl refl window takes gives
    (subst (λ (s : MergeState). MergeDid window s takes gives) (sym c.self.view_is) did)

pub returns-in-Memory-clause-did : goal.returns-in-Memory-clause-did
returns-in-Memory-clause-did g c window takes gives did =
    did_memory (stage_with c.self.inside.maker c.self.inside.start c.self.inside.behind c.self.inside.took.items c.self.inside.slots.items c.self.inside.closing c.self.inside.end) _ refl refl c.make.ensures.same.0 c.make.ensures.same.1 c.in-Memory.ensures.next
    (open_end c.self.inside.end (ap (λ (s : MergeState). merges_on s.end) c.self.view_is ∙ c.requires.merges)) refl refl refl refl window takes gives
    (subst (λ (s : MergeState). MergeDid window s takes gives) (sym c.self.view_is) did)

pub returns-in-Nothing-clause-cost : goal.returns-in-Nothing-clause-cost
returns-in-Nothing-clause-cost g c price = subst (λ (s : MergeState). merge_work (stage_with c.make.new.self c.self.inside.start c.self.inside.behind c.self.inside.took.items c.self.inside.slots.items c.self.inside.closing c.self.inside.end) price ≤ merge_work s price) c.self.view_is (rest_same (stage_with c.self.inside.maker c.self.inside.start c.self.inside.behind c.self.inside.took.items c.self.inside.slots.items c.self.inside.closing c.self.inside.end) (stage_with c.make.new.self c.self.inside.start c.self.inside.behind c.self.inside.took.items c.self.inside.slots.items c.self.inside.closing c.self.inside.end) c.in-Nothing.ensures.falls refl refl refl price)

pub returns-in-TooLarge-clause-cost : goal.returns-in-TooLarge-clause-cost
returns-in-TooLarge-clause-cost g c price = subst (λ (s : MergeState). merge_work (stage_with c.make.new.self c.self.inside.start c.self.inside.behind c.self.inside.took.items c.self.inside.slots.items c.self.inside.closing (TooLarge c.in-TooLarge.number c.in-TooLarge.bytes)) price + 1 ≤ merge_work s price) c.self.view_is (rest_ended (stage_with c.self.inside.maker c.self.inside.start c.self.inside.behind c.self.inside.took.items c.self.inside.slots.items c.self.inside.closing c.self.inside.end) (stage_with c.make.new.self c.self.inside.start c.self.inside.behind c.self.inside.took.items c.self.inside.slots.items c.self.inside.closing (TooLarge c.in-TooLarge.number c.in-TooLarge.bytes)) c.in-TooLarge.ensures.falls refl refl (ap (λ (s : MergeState). merges_on s.end) c.self.view_is ∙ c.requires.merges) refl price)

pub returns-in-Memory-clause-cost : goal.returns-in-Memory-clause-cost
returns-in-Memory-clause-cost g c price = subst (λ (s : MergeState). merge_work (stage_with c.make.new.self c.self.inside.start c.self.inside.behind c.self.inside.took.items c.self.inside.slots.items c.self.inside.closing Memory) price + 1 ≤ merge_work s price) c.self.view_is (rest_ended (stage_with c.self.inside.maker c.self.inside.start c.self.inside.behind c.self.inside.took.items c.self.inside.slots.items c.self.inside.closing c.self.inside.end) (stage_with c.make.new.self c.self.inside.start c.self.inside.behind c.self.inside.took.items c.self.inside.slots.items c.self.inside.closing Memory) c.in-Memory.ensures.falls refl refl (ap (λ (s : MergeState). merges_on s.end) c.self.view_is ∙ c.requires.merges) refl price)
