-- So far: where none has moved, those that were turned rest.
use Rattle.std.proofs.Common.{◌≡◌, ℕ, ◌<◌, false}
use Rattle.cdc_turns.specs.Flow.{RestsAt, Steps, line_with, view_of}
use Rattle.cdc_turns.proofs.rows.turn_round.Given as goal

abbrev pub invariant-loop-number : goal.invariant-loop-number
invariant-loop-number g l = Steps g.N.NodeTurns.account g.M.MergeTurns.account g.D.DumpTurns.account (line_with l.fn.nodes l.fn.ins l.fn.merge l.fn.outs l.fn.dumps) (line_with l.nodes l.ins l.merge l.outs l.dumps) l.moved × (l.moved ≡ false → (j : ℕ) → j < l.number → RestsAt (view_of g.N.NodeTurns.account g.M.MergeTurns.account g.D.DumpTurns.account (line_with l.nodes l.ins l.merge l.outs l.dumps)) j)
