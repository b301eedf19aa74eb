use Rattle.std.proofs.Common.{◌≡◌, ◌++◌, length-append, ap, ◌∙◌, arith}
use Rattle.cdc_gen.specs.Script.{end_steps}
use Rattle.cdc_gen.specs.Growing.{growing_logs}
use Rattle.cdc_gen.proofs.Steps.{growing_length, ends_few, more_ends}
use Rattle.cdc_gen.proofs.drill.put_ends.Goals as goal

pub loop-index-preserved : goal.loop-index-preserved
loop-index-preserved c =
    let so_far = c.loop-index.invariant in
    let i = c.loop-index.index in
    record {
      nodes = c.in_ok-put_on.ensures.nodes ∙ so_far.nodes;
      logs = λ nodes steps few same.
          let short = ends_few i c.args.count in
          let grown = length-append steps (end_steps i c.args.count) in
          let one = c.in_ok-put_on.ensures.ok nodes (steps ++ end_steps i c.args.count) (omega (arith, short, grown)) (so_far.logs nodes steps few same) in
          one ∙ ap (λ all. growing_logs nodes all) (more_ends steps i c.args.count);
    }

pub returns : goal.returns
returns c nodes steps few same =
    let long = growing_length nodes steps c.args.logs.now.items same in
    let all : c.loop-index.index ≡ nodes = omega (arith, long, c.number_of-nodes.ensures) in
    c.loop-index.invariant.logs nodes steps few same ∙ ap (λ n. growing_logs nodes (steps ++ end_steps n c.args.count)) all
