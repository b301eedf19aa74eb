use Rattle.std.proofs.Common.{Bool, true, List, length, map, sym, ◌∙◌, ap, arith, rules, Option}
use Rattle.std.proofs.lemmas.Grind.{common_steps}
use Rattle.cdc_item.specs.declared.dump_item.DumpItem.{DumpItem}
use Rattle.cdc_item.specs.declared.dump_item.DumpItem.TheVariants.{End}
use Rattle.cdc_merge_stage.specs.Merged.{MergeState, has_given}
use Rattle.cdc_merge_stage.specs.MergeLaws.{same_then}
use Rattle.cdc_merge_stage.proofs.Turning.{turn_first, turn_taken}
use Rattle.cdc_merge_stage.proofs.Works.{given_filled}
use Rattle.cdc_merge_stage.proofs.stage.MergeStage.take_or_close.Goals as goal

pub returns-in-Some : goal.returns-in-Some
returns-in-Some g c = record {
  turned = λ before r quiet.
      turn_taken g.I.LaneOut.moved g.I.LaneOut.empty g.O.LaneIn.moved g.O.LaneIn.full g.met.I.LaneOut.starts g.met.O.LaneIn.starts before c.args.ins.now c.args.outs.now (c.requires.ins ∙ ap length r.took) (c.requires.outs ∙ r.same.outs) c.args.self.now c.take.new.self c.in-Some.node c.take.new.ins c.take.result r (first_of (search rules, grind (arith, common_steps))) (first_of (search rules, grind (arith, common_steps))) c.requires.going
      (λ is. absurd (let w = c.self.invariant.whole (ap (λ (s : MergeState). s.end) c.self.view_is ∙ is) in let f = ap (λ (s : MergeState). s.closing) c.self.view_is ∙ c.requires.going in cc))
      c.take.ensures.takes c.take.auto.ins;
}

pub returns-in-None : goal.returns-in-None
returns-in-None g c = record {
  turned = λ before r quiet.
      turn_first g.I.LaneOut.moved g.I.LaneOut.empty g.O.LaneIn.moved g.O.LaneIn.full g.met.I.LaneOut.starts g.met.O.LaneIn.starts before c.args.ins.now c.args.outs.now (c.requires.ins ∙ ap length r.took) (c.requires.outs ∙ r.same.outs) c.close_all.new.self c.push_first.new.self c.push_first.new.outs c.push_first.result
      (record {
        did = λ window takes gives did. c.close_all.ensures.did window takes gives (r.did window takes gives did) (λ going kept. quiet window takes gives did going kept);
        same = same_then before c.args.self.now c.close_all.new.self r.same c.close_all.ensures.same;
        took = c.close_all.ensures.took.0 ∙ r.took;
        gave =
            ap (λ (b : Bool). map (has_given b) c.close_all.new.self.slots) c.close_all.ensures.took.1 ∙ ap (λ (l : List (Option DumpItem)). map (has_given true) l) c.close_all.ensures.took.2 ∙ given_filled c.args.self.now.slots End
            ∙ ap (λ (b : Bool). map (has_given b) c.args.self.now.slots) (sym c.requires.going) ∙ r.gave;
        cost = λ price. let first = r.cost price in let second = c.close_all.ensures.cost price in omega (arith, first, second);
        going = r.going;
      })
      c.push_first.ensures.pushes c.push_first.auto.outs;
}
