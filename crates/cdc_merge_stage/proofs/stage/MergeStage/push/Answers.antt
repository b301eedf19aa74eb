use Rattle.std.proofs.Common.{◌≡◌, ◌<◌, List, [], ◌∷◌, length, get_or, set, sym, ◌∙◌, ap, arith, Option, Some, None}
use Rattle.cdc_item.specs.declared.dump_item.DumpItem.{DumpItem}
use Rattle.cdc_merge_stage.specs.Merged.{MergeState, stage_with}
use Rattle.cdc_merge_stage.specs.Passing.{pushed, slotted}
use Rattle.cdc_merge_stage.proofs.Places.{turned_still, here_set, set_again}
use Rattle.cdc_turns.proofs.Turnings.{turned_one}
use Rattle.cdc_merge_stage.proofs.stage.MergeStage.push.Goals as goal

pub returns-in-Ok : goal.returns-in-Ok
returns-in-Ok g c = record {
  pushes = (
    c.in-Some.item,
    sym (c.take_slot.ensures.item ∙ ap (λ (s : MergeState). get_or s.slots c.args.out None) c.self.view_is) ∙ c.in-Some.is,
    ap (slotted (stage_with c.self.inside.maker c.self.inside.start c.self.inside.behind c.self.inside.took.items c.self.inside.slots.items c.self.inside.closing c.self.inside.end)) c.take_slot.ensures.slots ∙ ap (λ (s : MergeState). pushed s c.args.out) c.self.view_is,
    turned_one g.O.LaneIn.moved g.met.O.LaneIn.starts c.args.outs.now c.args.out (c.in-Some.item ∷ []) c.push.new.self c.index-outs-out.result c.in-Ok.ensures.moved,
  );
}

pub returns-in-Err : goal.returns-in-Err
returns-in-Err g c =
    let within : c.args.out < length c.args.outs.now = (let lanes = c.requires.lanes in let below = c.requires.within in omega (arith, lanes, below)) in
    let here : get_or c.self.inside.slots.items c.args.out None ≡ Some c.in-Err.back = sym c.take_slot.ensures.item ∙ c.in-Some.is ∙ ap (λ (i : DumpItem). Some i) (sym c.in-Err.ensures.moved.0) in
    record {
      pushes = (
        ap (slotted (stage_with c.self.inside.maker c.self.inside.start c.self.inside.behind c.self.inside.took.items c.self.inside.slots.items c.self.inside.closing c.self.inside.end)) (c.put_slot.ensures ∙ ap (λ (l : List (Option DumpItem)). set l c.args.out (Some c.in-Err.back)) c.take_slot.ensures.slots ∙ set_again c.self.inside.slots.items c.args.out None (Some c.in-Err.back) None here) ∙ c.self.view_is,
        turned_still g.O.LaneIn.moved g.met.O.LaneIn.starts c.args.outs.now c.args.out c.push.new.self c.index-outs-out.result c.in-Err.ensures.moved.1,
        here_set g.O.LaneIn.full c.args.outs.now c.args.out c.push.new.self within c.in-Err.ensures.full,
      );
    }
