use Rattle.std.proofs.Common.{◌≡◌, ◌-◌, ◌≤◌, length}
use Rattle.cdc_records.specs.Checkpoint.{cut_bytes, FitsCut}
use Rattle.cdc_task.proofs.Lists.{ReadsOn}
use Rattle.cdc_task.proofs.cut_reading.cut_list.Given as goal

abbrev pub invariant-points : goal.invariant-points
invariant-points l = ReadsOn cut_bytes FitsCut l.count l.initial.left l.list l.left × (length l.list ≡ l.taken) × (l.taken ≤ l.count)

abbrev pub decreases-points : goal.decreases-points
decreases-points l = l.count - l.taken
