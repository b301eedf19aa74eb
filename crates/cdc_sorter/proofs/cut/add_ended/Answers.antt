use Rattle.std.proofs.Common.{◌-◌, length, refl, ◌∙◌, arith}
use Rattle.cdc_sorter.proofs.HeldMaps.{ended_on}
use Rattle.cdc_sorter.proofs.cut.add_ended.Goals as goal

pub loop-index-preserved : goal.loop-index-preserved
loop-index-preserved c =
    let ended = c.args.ended.now in
    let index = c.loop-index.index in
    c.in_ok-add_one_ended.ensures
    ∙ ended_on c.args.number ended (length ended) index (length ended - 1 - index) c.index-ended-at.result c.loop-index.held c.args.held.now refl c.loop-index-test.true
    (omega (arith, c.loop-index-test.true)) c.index-ended-at.is c.loop-index.invariant
