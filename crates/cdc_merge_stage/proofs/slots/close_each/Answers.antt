use Rattle.std.proofs.Common.{Some, None, arith}
use Rattle.cdc_item.specs.declared.dump_item.DumpItem.TheVariants.{End}
use Rattle.cdc_merge_stage.proofs.Flags.{one_value}
use Rattle.cdc_merge_stage.proofs.slots.close_each.Goals as goal

pub returns : goal.returns
returns c =
    let long = c.loop-out.invariant.0 in
    let past = c.loop-out-test.false in
    one_value c.loop-out.slots c.args.slots.now (Some End) None long (λ k within. c.loop-out.invariant.1 k (omega (arith, within, past, long)))
