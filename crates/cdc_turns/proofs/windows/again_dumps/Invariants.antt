-- Those so far have their next window, the others are as they were.
use Rattle.std.proofs.Common.{◌≡◌, ℕ, ◌<◌, ◌≤◌, length, get_or, []}
use Rattle.cdc_turns.specs.Ends.{NextWindow}
use Rattle.cdc_turns.proofs.windows.again_dumps.Given as goal

abbrev pub invariant-loop-index : goal.invariant-loop-index
invariant-loop-index g l =
    (length l.dumps ≡ length l.fn.dumps)
    × ((k : ℕ) (d : g.row.D.Denot) → k < l.index → k < length l.dumps → NextWindow g.D.DumpTurns.account.got (get_or l.fn.dumps k d) (get_or l.dumps k d) × g.D.DumpTurns.account.turned (get_or l.fn.dumps k d) [] (get_or l.dumps k d))
    × ((k : ℕ) (d : g.row.D.Denot) → l.index ≤ k → get_or l.dumps k d ≡ get_or l.fn.dumps k d)
