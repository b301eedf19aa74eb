use Rattle.std.proofs.Common.{◌≡◌, length}
use Rattle.cdc_merger.specs.Feeding.{behind_front}
use Rattle.cdc_merger.proofs.node.Node.drop_front.Given as goal

abbrev pub invariant-loop-self : goal.invariant-loop-self
invariant-loop-self l = (behind_front l.key l.self.branches ≡ behind_front l.key l.fn.self.branches) × (l.self.bound ≡ l.fn.self.bound)

abbrev pub decreases-loop-self : goal.decreases-loop-self
decreases-loop-self l = length l.self.branches
