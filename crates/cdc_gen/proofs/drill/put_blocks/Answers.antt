use Rattle.std.proofs.Common.{ap, refl, ◌∙◌, sym, arith}
use Rattle.std.specs.List.{range_with_len, flat_map}
use Rattle.cdc_gen.specs.Draws.{state_after}
use Rattle.cdc_gen.specs.Script.{block_steps}
use Rattle.cdc_gen.specs.Growing.{growing_logs}
use Rattle.cdc_gen.proofs.Steps.{blocks_few, more_ranges}
use Rattle.cdc_gen.proofs.drill.put_blocks.Goals as goal

pub loop-block-init : goal.loop-block-init
unfolding state_after
loop-block-init c = record { nodes = refl; state = λ h. refl; logs = λ nodes same. same }

pub loop-block-preserved : goal.loop-block-preserved
loop-block-preserved c =
    let so_far = c.loop-block.invariant in
    let block = c.loop-block.block in
    let start = so_far.state (omega arith) in
    record {
      nodes = c.in_ok-put_block.ensures.nodes ∙ so_far.nodes;
      state = λ more. c.in_ok-put_block.ensures.state (omega arith) c.args.seed start;
      logs = λ nodes same.
          let short = blocks_few c.args.seed nodes c.args.count 0 block in
          let one = c.in_ok-put_block.ensures.ok c.args.seed nodes (flat_map (block_steps c.args.seed nodes c.args.count) (range_with_len 0 block)) (omega (arith, short)) start (so_far.logs nodes same) in
          one ∙ ap (λ all. growing_logs nodes all) (sym (more_ranges (block_steps c.args.seed nodes c.args.count) 0 block block (omega arith)));
    }
