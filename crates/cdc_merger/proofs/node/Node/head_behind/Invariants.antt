use Rattle.std.proofs.Common.{◌≡◌, ◌≤◌, ◌-◌, length, drop}
use Rattle.cdc_merger.specs.Feeding.{behind_front}
use Rattle.cdc_merger.proofs.node.Node.head_behind.Given as goal

-- what is left decides the rest
abbrev pub invariant-loop-branch : goal.invariant-loop-branch
invariant-loop-branch l = (l.index ≤ length l.self.branches) × (behind_front l.key (drop l.index l.self.branches) ≡ behind_front l.key l.self.branches)

abbrev pub decreases-loop-branch : goal.decreases-loop-branch
decreases-loop-branch l = length l.self.branches - l.index
