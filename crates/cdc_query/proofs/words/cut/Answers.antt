use Rattle.std.proofs.Common.{sym, ◌∙◌}
use Rattle.cdc_query.proofs.Pieces.{cut_behind, cut_here}
use Rattle.cdc_query.proofs.words.cut.Goals as goal

pub returns-then-byte-stop-clause-front : goal.returns-then-byte-stop-clause-front
returns-then-byte-stop-clause-front c =
    let cut = cut_here c.args.stop c.loop-at.at c.args.text.now c.loop-at-test.true c.loop-at.invariant c.if-byte-stop.true in
    c.split_at.ensures.front ∙ sym cut.front

pub returns-then-byte-stop-clause-rest : goal.returns-then-byte-stop-clause-rest
returns-then-byte-stop-clause-rest c =
    let cut = cut_here c.args.stop c.loop-at.at c.args.text.now c.loop-at-test.true c.loop-at.invariant c.if-byte-stop.true in
    c.split_at.ensures.back ∙ sym cut.rest

pub returns-clause-front : goal.returns-clause-front
returns-clause-front c = (cut_behind c.args.stop c.loop-at.at c.args.text.now c.loop-at-test.false c.loop-at.auto.at-end c.loop-at.invariant).0

pub returns-clause-rest : goal.returns-clause-rest
returns-clause-rest c = (cut_behind c.args.stop c.loop-at.at c.args.text.now c.loop-at-test.false c.loop-at.auto.at-end c.loop-at.invariant).1
