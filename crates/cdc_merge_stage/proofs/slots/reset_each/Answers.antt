use Rattle.std.proofs.Common.{false, arith}
use Rattle.cdc_merge_stage.proofs.Flags.{one_value}
use Rattle.cdc_merge_stage.proofs.slots.reset_each.Goals as goal

pub returns : goal.returns
returns c =
    let long = c.loop-node.invariant.0 in
    let past = c.loop-node-test.false in
    one_value c.loop-node.took c.args.took.now false false long (λ k within. c.loop-node.invariant.1 k (omega (arith, within, past, long)))
