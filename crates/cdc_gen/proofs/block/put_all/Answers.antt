use Rattle.std.proofs.Common.{◌<◌, ◌++◌, length, length-append, length-take, take, ap, sym, ◌∙◌, arith}
use Rattle.std.specs.List.{flat_map}
use Rattle.std.proofs.lemmas.List.{flat_map_more, take_more}
use Rattle.cdc_gen.specs.Script.{script_steps}
use Rattle.cdc_gen.specs.Growing.{growing_logs, IsPlanned}
use Rattle.cdc_gen.proofs.Steps.{all_left, steps_few}
use Rattle.cdc_gen.proofs.block.put_all.Goals as goal

pub loop-planned-preserved : goal.loop-planned-preserved
loop-planned-preserved c =
    let so_far = c.loop-planned.invariant in
    let i = c.loop-planned.planned-index in
    let plan = c.args.plan.now in
    let below : i < length plan = omega arith in
    record {
      nodes = c.in_ok-put_transaction.ensures.nodes ∙ so_far.nodes;
      left = all_left (IsPlanned (length c.args.logs.now.items)) plan i so_far.left;
      logs = λ nodes steps few same.
          let front = flat_map (script_steps nodes c.args.kind) (take i plan) in
          let short = steps_few nodes c.args.kind (take i plan) in
          let taken = length-take i plan in
          let grown = length-append steps front in
          let one = c.in_ok-put_transaction.ensures.ok nodes (steps ++ front) (omega (arith, short, taken, grown)) (so_far.logs nodes steps few same) in
          one ∙ ap (λ all. growing_logs nodes all) (flat_map_more (script_steps nodes c.args.kind) steps (take i plan) _ ∙ ap (λ items. steps ++ flat_map (script_steps nodes c.args.kind) items) (sym (take_more plan i _ below)));
    }
