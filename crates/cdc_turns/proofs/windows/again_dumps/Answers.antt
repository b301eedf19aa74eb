-- At the loop's end all have their next window.
use Rattle.std.proofs.Common.{◌≡◌, length, arith}
use Rattle.cdc_turns.specs.Ends.{NextWindow}
use Rattle.cdc_turns.proofs.Pairwise.{zip_by_index}
use Rattle.cdc_turns.proofs.Turnings.{turned_by_index}
use Rattle.cdc_turns.proofs.windows.again_dumps.Goals as goal

pub returns-clause-next : goal.returns-clause-next
returns-clause-next g c =
    let olds = c.args.dumps.now in
    let news = c.loop-index.dumps in
    let long : length news ≡ length olds = c.loop-index.invariant.0 in
    let past = c.loop-index-test.false in
    zip_by_index (NextWindow g.D.DumpTurns.account.got) olds news long (λ k d within. (c.loop-index.invariant.1 k d (omega (arith, within, past, long)) (omega (arith, within, long))).0)

pub returns-clause-turned : goal.returns-clause-turned
returns-clause-turned g c =
    let olds = c.args.dumps.now in
    let news = c.loop-index.dumps in
    let long : length news ≡ length olds = c.loop-index.invariant.0 in
    let past = c.loop-index-test.false in
    turned_by_index g.D.DumpTurns.account.turned olds news long (λ k d within. (c.loop-index.invariant.1 k d (omega (arith, within, past, long)) (omega (arith, within, long))).1)
