use Rattle.std.proofs.Common.{◌≡◌, Bool, ◌&&◌, sym, ◌∙◌, ap, arith, rules}
use Rattle.std.proofs.lemmas.Grind.{common_steps}
use Rattle.cdc_merge_stage.specs.Merged.{has_ended, all_none, all_true}
use Rattle.cdc_merge_stage.proofs.Flags.{ended_is}
use Rattle.cdc_merge_stage.proofs.stage.MergeStage.has_ended.Goals as goal

pub returns-then-self : goal.returns-then-self
returns-then-self g c =
    let e = ended_is (all_true c.self.inside.took.items) c.self.inside.closing (all_none c.self.inside.slots.items) c.self.invariant.all in
    let v = ap has_ended c.self.view_is in
    let clear : c.is_clear.result ≡ all_none c.self.inside.slots.items = (first_of (search rules, grind (arith, common_steps))) in
    let on : (c.self.inside.closing && all_none c.self.inside.slots.items) ≡ all_none c.self.inside.slots.items = ap (λ (b : Bool). b && all_none c.self.inside.slots.items) c.if-self.true in
    clear ∙ sym on ∙ sym e ∙ v
