use Rattle.std.proofs.Common.{length, refl, ◌∙◌, ap}
use Rattle.cdc_merge_stage.specs.Merged.{MergeState}
use Rattle.cdc_merge_stage.proofs.Flags.{clear_is}
use Rattle.cdc_merge_stage.proofs.stage.MergeStage.fill_all.Goals as goal

pub returns-in-Err-clause-filled : goal.returns-in-Err-clause-filled
returns-in-Err-clause-filled g c =
    (c.clear.ensures ∙ clear_is c.fill.new.slots.items c.args.self.now.slots (c.fill.ensures.many ∙ ap (λ (s : MergeState). length s.slots) c.self.view_is) c.requires, refl, ap (λ (s : MergeState). s.behind) c.self.view_is)
