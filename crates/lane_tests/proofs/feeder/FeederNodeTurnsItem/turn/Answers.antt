use Rattle.std.proofs.Common.{refl}
use Rattle.lane_tests.proofs.Sending.{sends_number}
use Rattle.lane_tests.proofs.feeder.FeederNodeTurnsItem.turn.Goals as goal

-- a number went in
pub returns-then-self-2-clause-sends : goal.returns-then-self-2-clause-sends
returns-then-self-2-clause-sends c = sends_number c.args.self.now _ c.args.lane.now c.give.new.lane c.if-not-give.ensures c.if-self.false refl refl refl c.if-self-2.true
