-- What is seen may be left, so its Front has all that each image keeps.
use Rattle.cdc_drill.proofs.Finding.{front_has_all}
use Rattle.cdc_drill.proofs.attempt.front_of.Goals as goal

pub returns-in-Ok : goal.returns-in-Ok
returns-in-Ok g c told plan txns keeps =
    front_has_all c.image_has_one_front.ensures plan txns (g.D.Disk.may_leave c.args.disk.now) (g.D.Disk.seen c.args.disk.now) c.in-Ok.front (g.met.D.Disk.seen_may_stay c.args.disk.now told) (c.in-Ok.ensures.found told) keeps
