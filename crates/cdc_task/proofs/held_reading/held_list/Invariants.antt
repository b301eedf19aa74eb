use Rattle.std.proofs.Common.{◌≡◌, ◌-◌, ◌≤◌, length}
use Rattle.cdc_model.specs.NodeCuts.{AreFloors}
use Rattle.cdc_records.specs.Checkpoint.{held_bytes, FitsHeld}
use Rattle.cdc_task.proofs.Lists.{ReadsOn}
use Rattle.cdc_task.proofs.held_reading.held_list.Given as goal

abbrev pub invariant-pairs : goal.invariant-pairs
invariant-pairs l = ReadsOn held_bytes FitsHeld l.count l.initial.left l.list l.left × (length l.list ≡ l.taken) × (l.taken ≤ l.count) × AreFloors l.list × (length l.left ≤ length l.initial.left)

abbrev pub decreases-pairs : goal.decreases-pairs
decreases-pairs l = l.count - l.taken
