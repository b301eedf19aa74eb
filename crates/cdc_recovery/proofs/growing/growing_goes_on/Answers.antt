use Rattle.cdc_recovery.proofs.Runs.{growing_goes_on}
use Rattle.cdc_recovery.proofs.growing.growing_goes_on.Goals as goal

pub returns : goal.returns
returns g c = λ told plan txns first second.
    growing_goes_on g.D.Disk.may_leave g.D.Disk.moment g.D.Disk.left_since (λ disk t image. g.met.D.Disk.counts_now disk t image told) plan txns c.args.old.now c.args.mid.now c.args.new.now first second
