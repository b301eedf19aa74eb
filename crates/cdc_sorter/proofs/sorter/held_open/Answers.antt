use Rattle.std.proofs.Common.{List, ap, ◌∙◌, arith}
use Rattle.cdc_model.specs.Row.{Row}
use Rattle.cdc_open.specs.Standing.{StandingBranch, standing_of, enter_standing}
use Rattle.cdc_sorter.proofs.Resuming.{held_new, held_more}
use Rattle.cdc_sorter.proofs.sorter.held_open.Goals as goal

pub open-requires : goal.open-requires
open-requires c =
    held_new c.args.place c.args.checksum c.args.held.now c.loop-pair.pair-index c.pair-item.result c.loop-pair.opened (omega arith) c.pair-item.is c.requires.ascend c.loop-pair.invariant

pub loop-pair-preserved : goal.loop-pair-preserved
loop-pair-preserved c =
    let opens : List Row → List StandingBranch =
    λ (rows : List Row). enter_standing (standing_of c.pair-item.result.0 (record { floor = c.pair-item.result.1; entry = 0; rows = rows; place = c.args.place; checksum = c.args.checksum })) c.loop-pair.opened in
    c.in_ok-open.ensures.ok
    ∙ ap opens c.empty.ensures
    ∙ held_more c.args.place c.args.checksum c.args.held.now c.loop-pair.pair-index c.pair-item.result c.loop-pair.opened (omega arith) c.pair-item.is c.requires.ascend c.loop-pair.invariant
