use Rattle.std.proofs.Common.{refl, sym}
use Rattle.cdc_turns.specs.declared.turn.Turn.TheVariants.{Blocked, Done}
use Rattle.lane_tests.proofs.Sending.{takes_none, takes_item}
use Rattle.lane_tests.proofs.keeper.KeeperDumpTurnsItem.turn.Goals as goal

-- the window has ended
pub returns-then-self-clause-takes : goal.returns-then-self-clause-takes
returns-then-self-clause-takes c = takes_none c.args.self.now c.args.lane.now c.args.lane.now Done (record { first = refl; room = refl }) refl

pub returns-then-self-clause-says : goal.returns-then-self-clause-says
returns-then-self-clause-says c = (c.if-self.true, c.if-self.true, refl)

-- an item came out
pub returns-in-Some-clause-takes : goal.returns-in-Some-clause-takes
returns-in-Some-clause-takes c = takes_item c.args.self.now c.note.new.self c.args.lane.now c.pop.new.self c.in-Some.item c.in-Some.ensures.moved c.if-self.false c.note.ensures

pub returns-in-Some-clause-says : goal.returns-in-Some-clause-says
returns-in-Some-clause-says c = c.if-self.false

-- none came out
pub returns-in-None-clause-takes : goal.returns-in-None-clause-takes
returns-in-None-clause-takes c = takes_none c.args.self.now c.args.lane.now c.pop.new.self Blocked c.in-None.ensures.moved refl

pub returns-in-None-clause-says : goal.returns-in-None-clause-says
returns-in-None-clause-says c = (c.if-self.false, c.if-self.false, sym c.in-None.ensures.moved.first, c.in-None.ensures.empty)
