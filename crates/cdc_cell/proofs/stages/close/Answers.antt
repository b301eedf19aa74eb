use Rattle.std.proofs.Common.{subst}
use Rattle.cdc_outside.specs.Disk.{Image, IsDurable, OneWrite}
use Rattle.cdc_outside.proofs.Moments.{joined, weaker}
use Rattle.cdc_outside.proofs.Pending.{durable_left}
use Rattle.cdc_cell.specs.Record.{IsClosing}
use Rattle.cdc_cell.proofs.Alone.{still_durable}
use Rattle.cdc_cell.proofs.Gates.{closing, closing_same}
use Rattle.cdc_cell.proofs.stages.close.Goals as goal

pub returns-in_err-stands_shut-clause-any_moment : goal.returns-in_err-stands_shut-clause-any_moment
returns-in_err-stands_shut-clause-any_moment g c = λ told durable.
    let old = c.args.disk.now in
    weaker g.D.Disk.moment g.D.Disk.left_since old c.stands_shut.new.disk (g.D.Disk.may_leave old) (IsClosing c.args.slot (g.D.Disk.seen old)) (c.stands_shut.ensures.alone told).any_moment
    (λ image left. closing_same c.args.slot (g.D.Disk.seen old) image (durable_left (g.D.Disk.seen old) (g.D.Disk.synced old) (g.D.Disk.pending old) image durable (g.met.D.Disk.image_is old image told left)))

pub returns-then-branch-clause-any_moment : goal.returns-then-branch-clause-any_moment
returns-then-branch-clause-any_moment g c = λ told durable.
    let old = c.args.disk.now in
    weaker g.D.Disk.moment g.D.Disk.left_since old c.stands_shut.new.disk (g.D.Disk.may_leave old) (IsClosing c.args.slot (g.D.Disk.seen old)) (c.stands_shut.ensures.alone told).any_moment
    (λ image left. closing_same c.args.slot (g.D.Disk.seen old) image (durable_left (g.D.Disk.seen old) (g.D.Disk.synced old) (g.D.Disk.pending old) image durable (g.met.D.Disk.image_is old image told left)))

pub returns-clause-any_moment : goal.returns-clause-any_moment
returns-clause-any_moment g c = λ told durable.
    let old = c.args.disk.now in
    let mid = c.stands_shut.new.disk in
    let alone = c.stands_shut.ensures.alone told in
    let seen : Image = g.D.Disk.seen old in
    let Q : Image → Type 0 = OneWrite c.args.slot 0 1 (g.D.Disk.seen mid) in
    let durable_mid : IsDurable (g.D.Disk.seen mid) (g.D.Disk.synced mid) (g.D.Disk.pending mid) =
    still_durable seen (g.D.Disk.synced old) (g.D.Disk.seen mid) (g.D.Disk.synced mid) (g.D.Disk.pending old) (g.D.Disk.pending mid) alone.same alone.base alone.changes durable in
    let ajar = c.in_ok-stands_shut.ensures.ajar told c.if-branch.false in
    joined g.D.Disk.moment g.D.Disk.left_since old mid c.write_through.new.disk (g.D.Disk.may_leave old) Q (IsClosing c.args.slot seen) alone.any_moment
    (c.write_through.ensures.any_moment told durable_mid)
    (λ image left. closing_same c.args.slot seen image (durable_left seen (g.D.Disk.synced old) (g.D.Disk.pending old) image durable (g.met.D.Disk.image_is old image told left)))
    (λ image one. closing c.args.slot seen image ajar (subst (λ (f : Image). OneWrite c.args.slot 0 1 f image) alone.same one))
