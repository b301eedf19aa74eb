-- One round more, and the end.
use Rattle.std.proofs.Common.{◌||◌, refl, ◌∙◌}
use Rattle.cdc_turns.specs.Flow.{line_with}
use Rattle.cdc_turns.proofs.OneTurn.{steps_then}
use Rattle.cdc_turns.proofs.Stuck.{all_ran}
use Rattle.cdc_turns.proofs.drive.run.Goals as goal

pub returns-then-not-turn_round-clause-ran : goal.returns-then-not-turn_round-clause-ran
returns-then-not-turn_round-clause-ran g c window flow =
    let so_far = c.loop.invariant.0.1 in
    let round = c.turn_round.ensures in
    (all_ran g.N.NodeTurns.account g.M.MergeTurns.account g.D.DumpTurns.account g.T.LaneItem.is_end g.U.LaneItem.is_end g.met.N.NodeTurns.closes g.met.M.MergeTurns.closes_ins g.met.M.MergeTurns.closes_outs g.met.D.DumpTurns.closes g.met.M.MergeTurns.took_all g.met.M.MergeTurns.gave_all window (line_with c.turn_round.new.nodes c.turn_round.new.ins c.turn_round.new.merge c.turn_round.new.outs c.turn_round.new.dumps) (round.steps.fits (so_far.fits c.requires.fits)) (round.rests c.if-not-turn_round.true) (round.steps.flow window (so_far.flow window flow).flow).flow).0

pub returns-then-not-turn_round-clause-nodes : goal.returns-then-not-turn_round-clause-nodes
returns-then-not-turn_round-clause-nodes g c =
    (steps_then g.N.NodeTurns.account g.M.MergeTurns.account g.D.DumpTurns.account g.met.N.NodeTurns.adds g.met.M.MergeTurns.adds g.met.D.DumpTurns.adds (line_with c.args.nodes.now c.args.ins.now c.args.merge.now c.args.outs.now c.args.dumps.now) (line_with c.loop.nodes c.loop.ins c.loop.merge c.loop.outs c.loop.dumps) (line_with c.turn_round.new.nodes c.turn_round.new.ins c.turn_round.new.merge c.turn_round.new.outs c.turn_round.new.dumps) c.loop.invariant.0.0 c.turn_round.result (c.loop.invariant.0.0 || c.turn_round.result) refl c.loop.invariant.0.1 c.turn_round.ensures.steps).turned_nodes

pub returns-then-not-turn_round-clause-dumps : goal.returns-then-not-turn_round-clause-dumps
returns-then-not-turn_round-clause-dumps g c =
    let so_far = c.loop.invariant.0.1 in
    let round = c.turn_round.ensures in
    let steps = steps_then g.N.NodeTurns.account g.M.MergeTurns.account g.D.DumpTurns.account g.met.N.NodeTurns.adds g.met.M.MergeTurns.adds g.met.D.DumpTurns.adds (line_with c.args.nodes.now c.args.ins.now c.args.merge.now c.args.outs.now c.args.dumps.now) (line_with c.loop.nodes c.loop.ins c.loop.merge c.loop.outs c.loop.dumps) (line_with c.turn_round.new.nodes c.turn_round.new.ins c.turn_round.new.merge c.turn_round.new.outs c.turn_round.new.dumps) c.loop.invariant.0.0 c.turn_round.result (c.loop.invariant.0.0 || c.turn_round.result) refl c.loop.invariant.0.1 c.turn_round.ensures.steps in (
      steps.taken,
      steps.turned_dumps,
      λ window before.
          let later = steps.flow window before in
          let ended = all_ran g.N.NodeTurns.account g.M.MergeTurns.account g.D.DumpTurns.account g.T.LaneItem.is_end g.U.LaneItem.is_end g.met.N.NodeTurns.closes g.met.M.MergeTurns.closes_ins g.met.M.MergeTurns.closes_outs g.met.D.DumpTurns.closes g.met.M.MergeTurns.took_all g.met.M.MergeTurns.gave_all window (line_with c.turn_round.new.nodes c.turn_round.new.ins c.turn_round.new.merge c.turn_round.new.outs c.turn_round.new.dumps) (round.steps.fits (so_far.fits c.requires.fits)) (round.rests c.if-not-turn_round.true) later.flow in
          record { ran = ended.0; gives = ended.1 ∙ later.gets },
    )

pub loop-preserved : goal.loop-preserved
loop-preserved g c =
    ((c.loop.invariant.0.0 || c.turn_round.result, steps_then g.N.NodeTurns.account g.M.MergeTurns.account g.D.DumpTurns.account g.met.N.NodeTurns.adds g.met.M.MergeTurns.adds g.met.D.DumpTurns.adds (line_with c.args.nodes.now c.args.ins.now c.args.merge.now c.args.outs.now c.args.dumps.now) (line_with c.loop.nodes c.loop.ins c.loop.merge c.loop.outs c.loop.dumps) (line_with c.turn_round.new.nodes c.turn_round.new.ins c.turn_round.new.merge c.turn_round.new.outs c.turn_round.new.dumps) c.loop.invariant.0.0 c.turn_round.result (c.loop.invariant.0.0 || c.turn_round.result) refl c.loop.invariant.0.1 c.turn_round.ensures.steps), c.loop.invariant.1, c.loop.invariant.2)
