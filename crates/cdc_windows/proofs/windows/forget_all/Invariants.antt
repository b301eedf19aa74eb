-- Those so far have forgotten, the others are as they were.
use Rattle.std.proofs.Common.{◌≡◌, ℕ, ◌<◌, ◌≤◌, length, get_or}
use Rattle.cdc_windows.proofs.Forgetting.{HasForgotten}
use Rattle.cdc_windows.proofs.windows.forget_all.Given as goal

abbrev pub invariant-loop-index : goal.invariant-loop-index
invariant-loop-index g l =
    (length l.nodes ≡ length l.fn.nodes)
    × ((k : ℕ) (d : g.row.N.Denot) → k < l.index → k < length l.nodes → HasForgotten g.N.NodeTurns.account g.N.NodePart.rereading l.last (get_or l.fn.nodes k d) (get_or l.nodes k d))
    × ((k : ℕ) (d : g.row.N.Denot) → l.index ≤ k → get_or l.nodes k d ≡ get_or l.fn.nodes k d)
