use Rattle.std.proofs.Common.{◌≡◌, ◌≤◌, ◌+◌, ◌*◌, ◌%◌, ◌++◌, length, length-append, length-take, length-drop, map, ap, refl, ◌∙◌, arith}
use Rattle.std.specs.List.{range_with_len, flat_map}
use Rattle.std.proofs.lemmas.Result.{on_ok_weaker}
use Rattle.cdc_gen.specs.declared.step.StepKind.TheVariants.{Prepare, Commit}
use Rattle.cdc_gen.specs.Draws.{state_after, drawn_from, draw}
use Rattle.cdc_gen.specs.Script.{planned, script_steps, block_size}
use Rattle.cdc_gen.proofs.Taken.{one_more_state}
use Rattle.cdc_gen.proofs.Steps.{growing_length, steps_few, always, block_done}
use Rattle.cdc_gen.proofs.block.put_block.Goals as goal

pub returns-clause-state : goal.returns-clause-state
returns-clause-state c full =
    let size = c.min-size.result in
    let block = c.args.block in
    let four : size ≡ 4 = omega arith in
    always c.put_local_where_due.result (λ seed start.
    let before = c.in_ok-plan.ensures.state seed block start in
    let behind : 5 * block + size + 1 ≡ 5 * (block + 1) = omega (arith, four) in
    c.draw.ensures.state ∙ one_more_state seed (5 * block + size) c.plan_block.new.draws.state before ∙ ap (λ n. state_after n seed) behind)

pub returns-clause-ok : goal.returns-clause-ok
returns-clause-ok c seed nodes steps few start same =
    let block = c.args.block in
    let count = c.args.count in
    let size = c.min-size.result in
    let whole = c.as_slice-whole.result.now in
    let front = c.split_at.result.0.now in
    let back = c.split_at.result.1.now in
    let long = growing_length nodes steps c.args.logs.now.items same in
    let number = c.number_of-nodes.ensures ∙ long in
    let sized : size ≡ block_size count block = c.min-size.ensures in
    let before = c.in_ok-plan.ensures.state seed block start in
    let drawn = c.draw.ensures.drawn ∙ ap drawn_from (c.draw.ensures.state ∙ one_more_state seed (5 * block + size) c.plan_block.new.draws.state before) in
    let first = ap (λ x. x % size) drawn ∙ ap (λ n. draw seed (5 * block + n + 1) % n) sized in
    let is = c.as_slice-whole.ensures.value ∙ c.in_ok-plan.ensures.plan seed block refl start
    ∙ ap (λ n. map (planned seed n) (range_with_len (4 * block + 1) size)) number
    ∙ ap (λ n. map (planned seed nodes) (range_with_len (4 * block + 1) n)) sized in
    let whole_few : length whole ≤ 4 = omega (arith, ap length c.as_slice-whole.ensures.value, c.in_ok-plan.ensures.size) in
    let front_few : length front ≤ 4 = omega (arith, ap length c.split_at.ensures.front, length-take (c.draw.result % size) whole, whole_few) in
    let back_few : length back ≤ 4 = omega (arith, ap length c.split_at.ensures.back, length-drop (c.draw.result % size) whole, whole_few) in
    let one_steps = flat_map (script_steps nodes Prepare) whole in
    let two_steps = flat_map (script_steps nodes Commit) back in
    let three_steps = flat_map (script_steps nodes Commit) front in
    let one_few = steps_few nodes Prepare whole in
    let two_few = steps_few nodes Commit back in
    let three_few = steps_few nodes Commit front in
    let one_long = length-append steps one_steps in
    let two_long = length-append (steps ++ one_steps) two_steps in
    let three_long = length-append ((steps ++ one_steps) ++ two_steps) three_steps in
    let one = c.in_ok-put_all.ensures.ok nodes steps (omega (arith, whole_few)) same in
    let two = c.in_ok-put_all-2.ensures.ok nodes (steps ++ one_steps) (omega (arith, whole_few, back_few, one_few, one_long)) one in
    let three = c.in_ok-put_all-3.ensures.ok nodes ((steps ++ one_steps) ++ two_steps) (omega (arith, whole_few, back_few, front_few, one_few, two_few, one_long, two_long)) two in
    let four = c.put_local_where_due.ensures.ok nodes (((steps ++ one_steps) ++ two_steps) ++ three_steps) (omega (arith, whole_few, back_few, front_few, one_few, two_few, three_few, one_long, two_long, three_long)) three in
    on_ok_weaker _ (block_done seed nodes count block (c.draw.result % size) size steps whole front back c.put_local_where_due.new.logs.items is first sized c.split_at.ensures.front c.split_at.ensures.back) four
