use Rattle.std.proofs.Common.{◌≡◌, ◌+◌, ◌≤◌, true, refl, sym, ◌∙◌, ap, subst}
use Rattle.cdc_item.specs.declared.dump_item.DumpItem.TheVariants.{End}
use Rattle.cdc_merge_stage.specs.Merged.{MergeState, MergeDid, AreKept, stage_with, merge_work, merges_on, all_none}
use Rattle.cdc_merge_stage.specs.Passing.{IsQuiet}
use Rattle.cdc_merge_stage.specs.declared.merge_end.MergeEnd.TheVariants.{Whole}
use Rattle.cdc_merge_stage.proofs.Preparing.{did_closed}
use Rattle.cdc_merge_stage.proofs.Works.{close_work}
use Rattle.cdc_merge_stage.proofs.stage.MergeStage.close_all.Goals as goal

pub returns-then-is_open-clause-did : goal.returns-then-is_open-clause-did
returns-then-is_open-clause-did g c window takes gives did quiet =
    did_closed (stage_with c.self.inside.maker c.self.inside.start c.self.inside.behind c.self.inside.took.items c.self.inside.slots.items c.self.inside.closing c.self.inside.end) _ refl refl refl refl refl refl (λ _. refl) (λ is. absurd (let a = c.is_open.ensures in let t = c.if-is_open.true in cc)) (ap (λ (s : MergeState). all_none s.slots) c.self.view_is ∙ c.requires.none) (ap (λ (s : MergeState). s.closing) c.self.view_is ∙ c.requires.going) refl c.close.ensures window takes gives
    (subst (λ (s : MergeState). MergeDid window s takes gives) (sym c.self.view_is) did)
    (subst (λ (s : MergeState). merges_on s.end ≡ true → AreKept s.start takes → IsQuiet s takes gives) (sym c.self.view_is) quiet)

pub returns-then-is_open-clause-cost : goal.returns-then-is_open-clause-cost
returns-then-is_open-clause-cost g c price =
    subst (λ (s : MergeState). merge_work (stage_with c.self.inside.maker c.self.inside.start c.self.inside.behind c.self.inside.took.items c.close.new.slots.items true Whole) price + 1 ≤ merge_work s price) c.self.view_is
    (close_work (stage_with c.self.inside.maker c.self.inside.start c.self.inside.behind c.self.inside.took.items c.self.inside.slots.items c.self.inside.closing c.self.inside.end) (stage_with c.self.inside.maker c.self.inside.start c.self.inside.behind c.self.inside.took.items c.close.new.slots.items true Whole) End refl c.close.ensures (ap (λ (s : MergeState). all_none s.slots) c.self.view_is ∙ c.requires.none) (ap (λ (s : MergeState). s.closing) c.self.view_is ∙ c.requires.going) refl refl price)

pub returns-else-is_open-clause-did : goal.returns-else-is_open-clause-did
returns-else-is_open-clause-did g c window takes gives did quiet =
    did_closed (stage_with c.self.inside.maker c.self.inside.start c.self.inside.behind c.self.inside.took.items c.self.inside.slots.items c.self.inside.closing c.self.inside.end) _ refl refl refl refl refl refl (λ is. absurd (let a = c.is_open.ensures in let t = c.if-is_open.false in cc)) (λ _. refl) (ap (λ (s : MergeState). all_none s.slots) c.self.view_is ∙ c.requires.none) (ap (λ (s : MergeState). s.closing) c.self.view_is ∙ c.requires.going) refl c.close.ensures window takes gives
    (subst (λ (s : MergeState). MergeDid window s takes gives) (sym c.self.view_is) did)
    (subst (λ (s : MergeState). merges_on s.end ≡ true → AreKept s.start takes → IsQuiet s takes gives) (sym c.self.view_is) quiet)

pub returns-else-is_open-clause-cost : goal.returns-else-is_open-clause-cost
returns-else-is_open-clause-cost g c price =
    subst (λ (s : MergeState). merge_work (stage_with c.self.inside.maker c.self.inside.start c.self.inside.behind c.self.inside.took.items c.close.new.slots.items true c.self.inside.end) price + 1 ≤ merge_work s price) c.self.view_is
    (close_work (stage_with c.self.inside.maker c.self.inside.start c.self.inside.behind c.self.inside.took.items c.self.inside.slots.items c.self.inside.closing c.self.inside.end) (stage_with c.self.inside.maker c.self.inside.start c.self.inside.behind c.self.inside.took.items c.close.new.slots.items true c.self.inside.end) End refl c.close.ensures (ap (λ (s : MergeState). all_none s.slots) c.self.view_is ∙ c.requires.none) (ap (λ (s : MergeState). s.closing) c.self.view_is ∙ c.requires.going) refl (sym c.is_open.ensures ∙ c.if-is_open.false) price)
