use Rattle.cdc_recovery.proofs.Runs.{passes_and_stops_keep}
use Rattle.cdc_recovery.proofs.growing.passes_and_stops_keep.Goals as goal

pub returns : goal.returns
returns g c = λ told plan least pass passes each row grows.
    passes_and_stops_keep g.D.Disk.may_leave g.D.Disk.moment g.D.Disk.left_since plan least pass passes each row grows
