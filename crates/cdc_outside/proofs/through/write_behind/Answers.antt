use Rattle.std.proofs.Common.{length}
use Rattle.cdc_outside.specs.Disk.{IsWaiting, KeepsBelow}
use Rattle.cdc_outside.proofs.Moments.{started, goes_on}
use Rattle.cdc_outside.proofs.Waiting.{still_waits, waiting_kept, kept_as_before}
use Rattle.cdc_outside.proofs.Blocks.{base_kept}
use Rattle.cdc_outside.proofs.through.write_behind.Goals as goal

pub returns-clause-waits : goal.returns-clause-waits
returns-clause-waits g c told keep place waits =
    let old = c.args.disk.now in
    let new = c.write_at.new.self in
    still_waits c.args.file c.args.at (length c.args.from.now) keep place (g.D.Disk.seen old) (g.D.Disk.seen new) (g.D.Disk.synced new) (g.D.Disk.pending old) (g.D.Disk.pending new)
    (base_kept keep (g.D.Disk.seen old) (g.D.Disk.pending old) (g.D.Disk.synced old) (g.D.Disk.synced new) (c.write_at.ensures.synced told) waits)
    (g.met.D.Disk.image_is new (g.D.Disk.seen new) told (g.met.D.Disk.seen_may_stay new told)) (c.write_at.ensures.pending told)

pub returns-clause-any_moment : goal.returns-clause-any_moment
returns-clause-any_moment g c told keep place waits =
    let old = c.args.disk.now in
    let new = c.write_at.new.self in
    let still : IsWaiting keep (g.D.Disk.seen new) (g.D.Disk.synced new) (g.D.Disk.pending new) = returns-clause-waits g c told keep place waits in
    goes_on g.D.Disk.moment g.D.Disk.left_since old old new (KeepsBelow keep (g.D.Disk.seen old)) (g.D.Disk.may_leave new)
    (started g.D.Disk.moment g.D.Disk.left_since old (KeepsBelow keep (g.D.Disk.seen old))
    (λ image left. waiting_kept keep (g.D.Disk.seen old) (g.D.Disk.synced old) (g.D.Disk.pending old) image waits (g.met.D.Disk.image_is old image told (g.met.D.Disk.only_now old image told left))))
    (c.write_at.ensures.time told)
    (λ image may. kept_as_before keep (g.D.Disk.seen old) (g.D.Disk.seen new) (g.D.Disk.synced new) (g.D.Disk.pending old) (g.D.Disk.pending new) image
    (base_kept keep (g.D.Disk.seen old) (g.D.Disk.pending old) (g.D.Disk.synced old) (g.D.Disk.synced new) (c.write_at.ensures.synced told) waits) still
    (waiting_kept keep (g.D.Disk.seen new) (g.D.Disk.synced new) (g.D.Disk.pending new) image still (g.met.D.Disk.image_is new image told may)))
