use Rattle.std.proofs.Common.{◌≡◌, length}
use Rattle.cdc_merger.specs.Heads.{head_count}
use Rattle.cdc_merger.proofs.gather.drain.Given as goal

abbrev pub invariant-loop-heads : goal.invariant-loop-heads
invariant-loop-heads g l = length l.heads ≡ length l.fn.heads

abbrev pub decreases-loop-heads : goal.decreases-loop-heads
decreases-loop-heads g l = head_count l.heads
