-- What ran flows on.
use Rattle.cdc_turns.proofs.NextFlow.{next_flow}
use Rattle.cdc_turns.proofs.windows.next_window.Goals as goal

pub returns-clause-flow : goal.returns-clause-flow
returns-clause-flow g c window ins outs fits ran =
    next_flow g.N.NodeTurns.account g.M.MergeTurns.account g.D.DumpTurns.account c.args.nodes.now c.again_nodes.new.nodes c.args.merge.now c.again.new.self c.args.dumps.now c.again_dumps.new.dumps window ins outs c.again_nodes.ensures.next c.again.ensures.next c.again_dumps.ensures.next fits ran
