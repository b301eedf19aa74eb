-- So far some turns were made; the work that is left falls.
use Rattle.std.proofs.Common.{◌≤◌, Bool, length}
use Rattle.cdc_turns.specs.Flow.{Steps, line_with, work_left}
use Rattle.cdc_turns.proofs.drive.run.Given as goal

abbrev pub invariant-loop : goal.invariant-loop
invariant-loop g l = ((moved : Bool) × Steps g.N.NodeTurns.account g.M.MergeTurns.account g.D.DumpTurns.account (line_with l.fn.nodes l.fn.ins l.fn.merge l.fn.outs l.fn.dumps) (line_with l.nodes l.ins l.merge l.outs l.dumps) moved) × (l.fn.at ≤ l.at) × (l.at ≤ length l.schedule)

abbrev pub decreases-loop : goal.decreases-loop
decreases-loop g l = work_left g.N.NodeTurns.account g.M.MergeTurns.account g.D.DumpTurns.account (line_with l.nodes l.ins l.merge l.outs l.dumps)
