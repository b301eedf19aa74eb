use Rattle.std.proofs.Common.{refl, ap}
use Rattle.lane_tests.specs.declared.item.Item.TheVariants.{Number, End}
use Rattle.lane_tests.specs.Jobs.{has_given_number}
use Rattle.lane_tests.proofs.Relaying.{over_turn, full_passes, gives_passes, taken_passes}
use Rattle.lane_tests.proofs.relay.RelayMergeTurnsItemItem.turn.Goals as goal

-- the lane of the out is full
pub returns-then-not-give-clause-passes : goal.returns-then-not-give-clause-passes
returns-then-not-give-clause-passes c = full_passes c.args.self.now c.args.ins.now c.args.outs.now c.index-outs-0.result c.give.new.lane c.requires.ins c.requires.outs
    c.if-not-give.ensures.0 c.if-not-give.ensures.1 (ap has_given_number c.in-Holding.is)

pub returns-then-not-give-2-clause-passes : goal.returns-then-not-give-2-clause-passes
returns-then-not-give-2-clause-passes c = full_passes c.args.self.now c.args.ins.now c.args.outs.now c.index-outs-0-in-Ending.result c.give-in-Ending.new.lane c.requires.ins c.requires.outs
    c.if-not-give-2.ensures.0 c.if-not-give-2.ensures.1 (ap has_given_number c.in-Ending.is)

-- the window has ended
pub returns-in-Over-clause-passes : goal.returns-in-Over-clause-passes
returns-in-Over-clause-passes c = (over_turn c.args.self.now c.args.ins.now c.args.outs.now c.in-Over.is).passes

-- an item is taken, where there is one
pub returns-in-Taking-clause-passes : goal.returns-in-Taking-clause-passes
returns-in-Taking-clause-passes c = taken_passes c.args.self.now _ c.args.ins.now c.args.outs.now c.index-ins-0.result c.take-turn.new.lane _ _ c.requires.ins c.requires.outs
    c.take-turn.ensures c.in-Taking.is refl

-- an item is given
pub returns-else-not-give-clause-passes : goal.returns-else-not-give-clause-passes
returns-else-not-give-clause-passes c = gives_passes c.args.self.now _ c.args.ins.now c.args.outs.now c.index-outs-0.result c.give.new.lane (Number c.in-Holding.number)
    c.requires.ins c.requires.outs c.if-not-give.ensures c.in-Holding.is refl

pub returns-else-not-give-2-clause-passes : goal.returns-else-not-give-2-clause-passes
returns-else-not-give-2-clause-passes c = gives_passes c.args.self.now _ c.args.ins.now c.args.outs.now c.index-outs-0-in-Ending.result c.give-in-Ending.new.lane End
    c.requires.ins c.requires.outs c.if-not-give-2.ensures c.in-Ending.is refl
