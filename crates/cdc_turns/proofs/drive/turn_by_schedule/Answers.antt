-- One turn more by the schedule.
use Rattle.std.proofs.Common.{◌<◌, ◌≤◌, false, ◌||◌, length, refl, arith}
use Rattle.cdc_turns.specs.Flow.{line_with}
use Rattle.cdc_turns.specs.Turns.{is_move}
use Rattle.cdc_turns.proofs.OneTurn.{steps_none, steps_then}
use Rattle.cdc_turns.proofs.drive.turn_by_schedule.Goals as goal

pub loop-at-init : goal.loop-at-init
loop-at-init g c = ((false, steps_none g.N.NodeTurns.account g.M.MergeTurns.account g.D.DumpTurns.account g.met.N.NodeTurns.starts g.met.M.MergeTurns.starts g.met.D.DumpTurns.starts (line_with c.args.nodes.now c.args.ins.now c.args.merge.now c.args.outs.now c.args.dumps.now)), omega arith, c.requires.place, refl)

pub loop-at-preserved : goal.loop-at-preserved
loop-at-preserved g c =
    let so_far = c.loop-at.invariant in
    let turn = c.turn_one-turn in
    let moved = so_far.0.0 || is_move turn.result in
    let later : c.args.at.now ≤ c.loop-at.at = so_far.1 in
    let below : c.loop-at.at < length c.args.schedule.now = c.loop-at-test.true in
    ((moved, steps_then g.N.NodeTurns.account g.M.MergeTurns.account g.D.DumpTurns.account g.met.N.NodeTurns.adds g.met.M.MergeTurns.adds g.met.D.DumpTurns.adds (line_with c.args.nodes.now c.args.ins.now c.args.merge.now c.args.outs.now c.args.dumps.now) (line_with c.loop-at.nodes c.loop-at.ins c.loop-at.merge c.loop-at.outs c.loop-at.dumps) (line_with turn.new.nodes turn.new.ins turn.new.merge turn.new.outs turn.new.dumps) so_far.0.0 (is_move turn.result) moved refl so_far.0.1 turn.ensures.steps), omega (arith, later), omega (arith, below), refl)
