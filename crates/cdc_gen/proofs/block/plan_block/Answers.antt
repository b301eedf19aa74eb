use Rattle.std.proofs.Common.{◌≤◌, ◌<◌, ◌+◌, [], ◌∷◌, length, length-append, ap, ◌∙◌, arith}
use Rattle.cdc_gen.specs.Growing.{IsPlanned}
use Rattle.cdc_gen.proofs.Taken.{one_more_drawn, one_more_planned, planned_by}
use Rattle.cdc_gen.proofs.Steps.{all_more}
use Rattle.cdc_gen.proofs.block.plan_block.Goals as goal

pub loop-number-preserved : goal.loop-number-preserved
loop-number-preserved c =
    let so_far = c.loop-number.invariant in
    let number = c.loop-number.number in
    let new = planned_by c.args.nodes number c.draw.result in
    let low : c.args.first ≤ number = omega arith in
    let high : number < c.args.first + 4 = omega (arith, c.requires.size) in
    let kept : IsPlanned c.args.nodes new = record { least = omega arith; most = omega (arith, c.requires.nodes); number = omega (arith, c.requires.number) } in
    let long = ap length c.in_ok-push.ensures.items in
    let longer = length-append c.loop-number.plan.items (new ∷ []) in
    record {
      size = omega (arith, long, longer, so_far.size);
      all = rw c.in_ok-push.ensures.items (all_more (IsPlanned c.args.nodes) c.loop-number.plan.items new so_far.all kept);
      state = λ seed block start. one_more_drawn seed block c.args.first number c.loop-number.draws.state c.draw.new.self.state low (so_far.state seed block start) c.draw.ensures.state;
      plan = λ seed block begins start. c.in_ok-push.ensures.items
          ∙ one_more_planned seed c.args.nodes block c.args.first number c.loop-number.draws.state c.draw.new.self.state c.draw.result c.loop-number.plan.items low high begins
          (so_far.state seed block start) c.draw.ensures.state c.draw.ensures.drawn (so_far.plan seed block begins start);
    }
