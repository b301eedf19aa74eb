use Rattle.std.proofs.Common.{◌≡◌, Bool, true, false, map, sym, ◌∙◌, ap, arith, rules}
use Rattle.std.proofs.lemmas.Grind.{common_steps}
use Rattle.cdc_merge_stage.specs.Merged.{has_given, merges_on}
use Rattle.cdc_merge_stage.proofs.Turning.{reaches_itself, turn_done, turn_alone, turn_pushed, turn_first, turn_taken}
use Rattle.cdc_merge_stage.proofs.Works.{given_none}
use Rattle.cdc_merge_stage.proofs.stage.MergeStage.turn.Goals as goal

pub returns-then-has_ended : goal.returns-then-has_ended
returns-then-has_ended g c = turn_done g.I.LaneOut.moved g.I.LaneOut.empty g.O.LaneIn.moved g.O.LaneIn.full g.met.I.LaneOut.starts g.met.O.LaneIn.starts c.args.self.now c.args.ins.now c.args.outs.now (sym c.requires.ins) (sym c.requires.outs) (sym c.has_ended.ensures ∙ c.if-has_ended.true)

pub returns-in-Some : goal.returns-in-Some
returns-in-Some g c =
    turn_pushed g.I.LaneOut.moved g.I.LaneOut.empty g.O.LaneIn.moved g.O.LaneIn.full g.met.I.LaneOut.starts g.met.O.LaneIn.starts c.args.self.now c.args.ins.now c.args.outs.now (sym c.requires.ins) (sym c.requires.outs) c.args.self.now c.push.new.self 0 c.in-Some.out c.push.new.outs c.push.result (reaches_itself c.args.self.now (sym c.has_ended.ensures ∙ c.if-has_ended.false)) (first_of (search rules, grind (arith, common_steps))) (first_of (search rules, grind (arith, common_steps))) c.push.ensures.pushes c.push.auto.outs

pub returns-then-not-is_open : goal.returns-then-not-is_open
returns-then-not-is_open g c =
    c.take_or_close.ensures.turned c.args.self.now (reaches_itself c.args.self.now (sym c.has_ended.ensures ∙ c.if-has_ended.false)) (λ window takes gives did going. absurd (let is : merges_on c.args.self.now.end ≡ false = (first_of (search rules, grind (arith, common_steps))) in cc))

pub returns-in-Filled : goal.returns-in-Filled
returns-in-Filled g c =
    turn_first g.I.LaneOut.moved g.I.LaneOut.empty g.O.LaneIn.moved g.O.LaneIn.full g.met.I.LaneOut.starts g.met.O.LaneIn.starts c.args.self.now c.args.ins.now c.args.outs.now (sym c.requires.ins) (sym c.requires.outs) c.make.new.self c.push_first.new.self c.push_first.new.outs c.push_first.result (record {
      did = c.in-Filled.ensures.did;
      same = c.make.ensures.same;
      took = c.make.ensures.took.0;
      gave =
          let closing : c.args.self.now.closing ≡ false = (first_of (search rules, grind (arith, common_steps))) in
          ap (λ (b : Bool). map (has_given b) c.make.new.self.slots) c.make.ensures.took.1 ∙ given_none c.make.new.self.slots c.args.self.now.slots c.make.ensures.same.outs ∙ ap (λ (b : Bool). map (has_given b) c.args.self.now.slots) (sym closing);
      cost = c.in-Filled.ensures.cost;
      going = (sym c.has_ended.ensures ∙ c.if-has_ended.false);
    }) c.push_first.ensures.pushes c.push_first.auto.outs

pub returns-in-Ended : goal.returns-in-Ended
returns-in-Ended g c = turn_alone g.I.LaneOut.moved g.I.LaneOut.empty g.O.LaneIn.moved g.O.LaneIn.full g.met.I.LaneOut.starts g.met.O.LaneIn.starts c.args.self.now c.args.ins.now c.args.outs.now (sym c.requires.ins) (sym c.requires.outs) c.make.new.self (record {
  did = c.in-Ended.ensures.did;
  same = c.make.ensures.same;
  took = c.make.ensures.took.0;
  gave =
      let closing : c.args.self.now.closing ≡ false = (first_of (search rules, grind (arith, common_steps))) in
      ap (λ (b : Bool). map (has_given b) c.make.new.self.slots) c.make.ensures.took.1 ∙ given_none c.make.new.self.slots c.args.self.now.slots c.make.ensures.same.outs ∙ ap (λ (b : Bool). map (has_given b) c.args.self.now.slots) (sym closing);
  cost = c.in-Ended.ensures.cost;
  going = (sym c.has_ended.ensures ∙ c.if-has_ended.false);
})

pub returns-in-Nothing : goal.returns-in-Nothing
returns-in-Nothing g c =
    c.take_or_close-in-Nothing.ensures.turned c.args.self.now (rw c.note_bound.ensures (record {
      did = λ window takes gives did. (c.in-Nothing.ensures.did window takes gives did).0;
      same = c.make.ensures.same;
      took = c.make.ensures.took.0;
      gave =
          let closing : c.args.self.now.closing ≡ false = (first_of (search rules, grind (arith, common_steps))) in
          ap (λ (b : Bool). map (has_given b) c.make.new.self.slots) c.make.ensures.took.1 ∙ given_none c.make.new.self.slots c.args.self.now.slots c.make.ensures.same.outs ∙ ap (λ (b : Bool). map (has_given b) c.args.self.now.slots) (sym closing);
      cost = λ price. let cost = c.in-Nothing.ensures.cost price in omega (arith, cost);
      going = (sym c.has_ended.ensures ∙ c.if-has_ended.false);
    })) (λ window takes gives did going kept. rw c.note_bound.ensures ((c.in-Nothing.ensures.did window takes gives did).1 (rw c.note_bound.ensures at kept)))

-- no unit is settled before the least bound rises
pub returns-in-Some-still_lagging : goal.returns-in-Some-still_lagging
returns-in-Some-still_lagging g c =
    turn_taken g.I.LaneOut.moved g.I.LaneOut.empty g.O.LaneIn.moved g.O.LaneIn.full g.met.I.LaneOut.starts g.met.O.LaneIn.starts c.args.self.now c.args.ins.now c.args.outs.now (sym c.requires.ins) (sym c.requires.outs) c.args.self.now c.take.new.self c.in-Some-still_lagging.node c.take.new.ins c.take.result
    (reaches_itself c.args.self.now (sym c.has_ended.ensures ∙ c.if-has_ended.false)) (first_of (search rules, grind (arith, common_steps))) (first_of (search rules, grind (arith, common_steps))) (first_of (search rules, grind (arith, common_steps)))
    (λ is. absurd (let going : merges_on c.args.self.now.end ≡ true = (first_of (search rules, grind (arith, common_steps))) in let e : true ≡ false = sym going ∙ ap merges_on is in cc))
    c.take.ensures.takes c.take.auto.ins
