-- Those so far have their next window, the others are as they were.
use Rattle.std.proofs.Common.{◌≡◌, ℕ, ◌<◌, ◌≤◌, length, get_or}
use Rattle.cdc_turns.specs.Ends.{NextWindow}
use Rattle.cdc_turns.proofs.windows.again_nodes.Given as goal

abbrev pub invariant-loop-index : goal.invariant-loop-index
invariant-loop-index g l =
    (length l.nodes ≡ length l.fn.nodes)
    × ((k : ℕ) (d : g.row.N.Denot) → k < l.index → k < length l.nodes → NextWindow g.N.NodeTurns.account.sent (get_or l.fn.nodes k d) (get_or l.nodes k d) × g.N.NodeTurns.account.turned (get_or l.fn.nodes k d) (get_or l.nodes k d))
    × ((k : ℕ) (d : g.row.N.Denot) → l.index ≤ k → get_or l.nodes k d ≡ get_or l.fn.nodes k d)
