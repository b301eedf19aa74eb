use Rattle.std.proofs.Common.{arith}
use Rattle.cdc_merge_stage.proofs.Flags.{none_waits}
use Rattle.cdc_merge_stage.proofs.slots.first_filled.Goals as goal

pub returns-clause-none : goal.returns-clause-none
returns-clause-none c = let past = c.loop-out-test.false in none_waits c.args.slots.now (λ k within. c.loop-out.invariant k (omega (arith, within, past)))
