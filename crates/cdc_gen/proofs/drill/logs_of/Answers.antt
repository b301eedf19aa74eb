use Rattle.std.proofs.Common.{◌+◌, ◌/◌, ◌≤◌, ◌^◌, ◌∙◌, ℕ, List, length, subst, sym, arith, []}
use Rattle.std.specs.List.{range_with_len, flat_map, AllByRecursion}
use Rattle.std.proofs.lemmas.Result.{IfOk-weaker}
use Rattle.cdc_gen.specs.Script.{block_steps, drill_steps}
use Rattle.cdc_gen.proofs.Steps.{growing_length, blocks_few}
use Rattle.cdc_gen.proofs.Short.{logs_short}
use Rattle.cdc_gen.proofs.drill.logs_of.Goals as goal

pub put_blocks-requires-clause-nodes : goal.put_blocks-requires-clause-nodes
put_blocks-requires-clause-nodes c = let long = growing_length c.args.nodes [] c.in_ok-logs.logs.items c.in_ok-logs.ensures in omega (arith, long)

pub put_ends-requires-clause-nodes : goal.put_ends-requires-clause-nodes
put_ends-requires-clause-nodes c =
    let long = growing_length c.args.nodes [] c.in_ok-logs.logs.items c.in_ok-logs.ensures in
    omega (arith, long, c.in_ok-put_blocks.ensures.nodes)

pub returns-clause-logs : goal.returns-clause-logs
unfolding drill_steps
returns-clause-logs c =
    let nodes = c.args.nodes in
    let blocks = flat_map (block_steps c.args.seed nodes c.args.count) (range_with_len 0 ((c.args.count + 3) / 4)) in
    let short = blocks_few c.args.seed nodes c.args.count 0 ((c.args.count + 3) / 4) in
    let all = c.in_ok-put_ends.ensures nodes blocks (omega (arith, short)) (c.in_ok-put_blocks.ensures.ok nodes c.in_ok-logs.ensures) in
    IfOk-weaker c.frozen.result _ _ (λ list e. e ∙ all) c.frozen.ensures

pub returns-clause-short : goal.returns-clause-short
returns-clause-short c =
    IfOk-weaker c.frozen.result _ _ (λ list e. subst (λ (logs : List (List ℕ)). AllByRecursion (λ (log : List ℕ). length log ≤ 2 ^ 40) logs) (sym e) (logs_short c.args.seed c.args.nodes c.args.count c.requires.nodes c.requires.count)) (returns-clause-logs c)
