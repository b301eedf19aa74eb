-- So far some turns were made; what is left of the schedule falls.
use Rattle.std.proofs.Common.{◌≡◌, ◌+◌, ◌-◌, ◌≤◌, Bool, length}
use Rattle.cdc_turns.specs.Flow.{Steps, line_with}
use Rattle.cdc_turns.proofs.drive.turn_by_schedule.Given as goal

abbrev pub invariant-loop-at : goal.invariant-loop-at
invariant-loop-at g l = ((moved : Bool) × Steps g.N.NodeTurns.account g.M.MergeTurns.account g.D.DumpTurns.account (line_with l.fn.nodes l.fn.ins l.fn.merge l.fn.outs l.fn.dumps) (line_with l.nodes l.ins l.merge l.outs l.dumps) moved) × (l.fn.at ≤ l.at) × (l.at ≤ length l.schedule) × (l.stages ≡ length l.fn.nodes + 1 + length l.fn.dumps)

abbrev pub decreases-loop-at : goal.decreases-loop-at
decreases-loop-at g l = length l.schedule - l.at
