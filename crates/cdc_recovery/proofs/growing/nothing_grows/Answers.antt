use Rattle.cdc_recovery.proofs.Runs.{nothing_grows}
use Rattle.cdc_recovery.proofs.growing.nothing_grows.Goals as goal

pub returns : goal.returns
returns g c = λ told plan txns. nothing_grows g.D.Disk.may_leave g.D.Disk.moment g.D.Disk.left_since (λ disk image. g.met.D.Disk.only_now disk image told) plan txns c.args._disk.now
