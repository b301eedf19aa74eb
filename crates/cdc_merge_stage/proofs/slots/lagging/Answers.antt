use Rattle.std.proofs.Common.{◌≡◌, ℕ, ◌<◌, ◌≤◌, true, length, get_or, arith}
use Rattle.cdc_merge_stage.specs.Merged.{all_true}
use Rattle.cdc_merge_stage.proofs.Flags.{all_flags, if_none}
use Rattle.cdc_merge_stage.proofs.slots.lagging.Goals as goal

pub returns-clause-none : goal.returns-clause-none
returns-clause-none c =
    let took = c.args.took.now in
    let past : length took ≤ c.loop-node.node = c.loop-node-test.false in
    if_none ((k : ℕ) → k < c.loop-node.node → get_or took k true ≡ true) (all_true took ≡ true) c.loop-node.found
    (λ each. all_flags took (λ k within. each k (omega (arith, within, past)))) c.loop-node.invariant.1
