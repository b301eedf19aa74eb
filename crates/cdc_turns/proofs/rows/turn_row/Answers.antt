-- One turn more.
use Rattle.std.proofs.Common.{true, refl}
use Rattle.cdc_turns.specs.Flow.{line_with}
use Rattle.cdc_turns.specs.Turns.{is_move}
use Rattle.cdc_turns.proofs.OneTurn.{steps_then}
use Rattle.cdc_turns.proofs.rows.turn_row.Goals as goal

pub returns-then-not-is_move-2-clause-steps : goal.returns-then-not-is_move-2-clause-steps
returns-then-not-is_move-2-clause-steps g c =
    steps_then g.N.NodeTurns.account g.M.MergeTurns.account g.D.DumpTurns.account g.met.N.NodeTurns.adds g.met.M.MergeTurns.adds g.met.D.DumpTurns.adds (line_with c.args.nodes.now c.args.ins.now c.args.merge.now c.args.outs.now c.args.dumps.now) (line_with c.loop.nodes c.loop.ins c.loop.merge c.loop.outs c.loop.dumps) (line_with c.turn_one-next.new.nodes c.turn_one-next.new.ins c.turn_one-next.new.merge c.turn_one-next.new.outs c.turn_one-next.new.dumps) true (is_move c.turn_one-next.result) true refl c.loop.invariant c.turn_one-next.ensures.steps

pub loop-preserved : goal.loop-preserved
loop-preserved g c =
    steps_then g.N.NodeTurns.account g.M.MergeTurns.account g.D.DumpTurns.account g.met.N.NodeTurns.adds g.met.M.MergeTurns.adds g.met.D.DumpTurns.adds (line_with c.args.nodes.now c.args.ins.now c.args.merge.now c.args.outs.now c.args.dumps.now) (line_with c.loop.nodes c.loop.ins c.loop.merge c.loop.outs c.loop.dumps) (line_with c.turn_one-next.new.nodes c.turn_one-next.new.ins c.turn_one-next.new.merge c.turn_one-next.new.outs c.turn_one-next.new.dumps) true (is_move c.turn_one-next.result) true refl c.loop.invariant c.turn_one-next.ensures.steps
