-- So far something has moved.
use Rattle.std.proofs.Common.{true}
use Rattle.cdc_turns.specs.Flow.{Steps, line_with}
use Rattle.cdc_turns.proofs.rows.turn_row.Given as goal

abbrev pub invariant-loop : goal.invariant-loop
invariant-loop g l = Steps g.N.NodeTurns.account g.M.MergeTurns.account g.D.DumpTurns.account (line_with l.fn.nodes l.fn.ins l.fn.merge l.fn.outs l.fn.dumps) (line_with l.nodes l.ins l.merge l.outs l.dumps) true
