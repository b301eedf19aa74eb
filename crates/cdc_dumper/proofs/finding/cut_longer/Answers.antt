use Rattle.std.proofs.Common.{subst}
use Rattle.cdc_outside.specs.Disk.{Image, OneCut, LeavesOnly, IsDurable}
use Rattle.cdc_outside.proofs.Moments.{joined, weaker}
use Rattle.cdc_outside.proofs.Pending.{durable_left}
use Rattle.cdc_cell.proofs.Alone.{still_durable}
use Rattle.cdc_dumper.proofs.Cutting.{nothing_cut}
use Rattle.cdc_dumper.proofs.finding.cut_longer.Goals as goal

pub returns-in_err-found-clause-any_moment : goal.returns-in_err-found-clause-any_moment
returns-in_err-found-clause-any_moment g c = λ told durable.
    let s0 : Image = g.D.Disk.seen c.args.disk.now in
    weaker g.D.Disk.moment g.D.Disk.left_since c.args.disk.now c.read_length.new.disk (g.D.Disk.may_leave c.args.disk.now) (OneCut c.args.file c.args.to s0) (c.read_length.ensures.alone told).any_moment
    (λ image may. nothing_cut c.args.file c.args.to s0 image (c.requires told) (durable_left s0 (g.D.Disk.synced c.args.disk.now) (g.D.Disk.pending c.args.disk.now) image durable (g.met.D.Disk.image_is c.args.disk.now image told may)))

pub returns-then-found-to-clause-any_moment : goal.returns-then-found-to-clause-any_moment
returns-then-found-to-clause-any_moment g c = λ told durable.
    let s0 : Image = g.D.Disk.seen c.args.disk.now in
    weaker g.D.Disk.moment g.D.Disk.left_since c.args.disk.now c.read_length.new.disk (g.D.Disk.may_leave c.args.disk.now) (OneCut c.args.file c.args.to s0) (c.read_length.ensures.alone told).any_moment
    (λ image may. nothing_cut c.args.file c.args.to s0 image (c.requires told) (durable_left s0 (g.D.Disk.synced c.args.disk.now) (g.D.Disk.pending c.args.disk.now) image durable (g.met.D.Disk.image_is c.args.disk.now image told may)))

pub returns-in_err-cut_through-clause-any_moment : goal.returns-in_err-cut_through-clause-any_moment
returns-in_err-cut_through-clause-any_moment g c = λ told durable.
    let s0 : Image = g.D.Disk.seen c.args.disk.now in
    let alone = c.read_length.ensures.alone told in
    let s1 : Image = g.D.Disk.seen c.read_length.new.disk in
    let R : Image → Type 0 = OneCut c.args.file c.args.to s0 in
    let first : LeavesOnly g.D.Disk.moment g.D.Disk.left_since c.args.disk.now c.read_length.new.disk R = weaker g.D.Disk.moment g.D.Disk.left_since c.args.disk.now c.read_length.new.disk (g.D.Disk.may_leave c.args.disk.now) R alone.any_moment
    (λ image may. nothing_cut c.args.file c.args.to s0 image (c.requires told) (durable_left s0 (g.D.Disk.synced c.args.disk.now) (g.D.Disk.pending c.args.disk.now) image durable (g.met.D.Disk.image_is c.args.disk.now image told may))) in
    let still : IsDurable s1 (g.D.Disk.synced c.read_length.new.disk) (g.D.Disk.pending c.read_length.new.disk) = still_durable s0 (g.D.Disk.synced c.args.disk.now) s1 (g.D.Disk.synced c.read_length.new.disk) (g.D.Disk.pending c.args.disk.now) (g.D.Disk.pending c.read_length.new.disk) alone.same alone.base alone.changes durable in
    joined g.D.Disk.moment g.D.Disk.left_since c.args.disk.now c.read_length.new.disk c.cut_through.new.disk R (OneCut c.args.file c.args.to s1) R first (c.cut_through.ensures.any_moment told still) (λ image is. is)
    (λ image is. subst (λ (s : Image). OneCut c.args.file c.args.to s image) alone.same is)

pub returns-clause-any_moment : goal.returns-clause-any_moment
returns-clause-any_moment g c = λ told durable.
    let s0 : Image = g.D.Disk.seen c.args.disk.now in
    let alone = c.read_length.ensures.alone told in
    let s1 : Image = g.D.Disk.seen c.read_length.new.disk in
    let R : Image → Type 0 = OneCut c.args.file c.args.to s0 in
    let first : LeavesOnly g.D.Disk.moment g.D.Disk.left_since c.args.disk.now c.read_length.new.disk R = weaker g.D.Disk.moment g.D.Disk.left_since c.args.disk.now c.read_length.new.disk (g.D.Disk.may_leave c.args.disk.now) R alone.any_moment
    (λ image may. nothing_cut c.args.file c.args.to s0 image (c.requires told) (durable_left s0 (g.D.Disk.synced c.args.disk.now) (g.D.Disk.pending c.args.disk.now) image durable (g.met.D.Disk.image_is c.args.disk.now image told may))) in
    let still : IsDurable s1 (g.D.Disk.synced c.read_length.new.disk) (g.D.Disk.pending c.read_length.new.disk) = still_durable s0 (g.D.Disk.synced c.args.disk.now) s1 (g.D.Disk.synced c.read_length.new.disk) (g.D.Disk.pending c.args.disk.now) (g.D.Disk.pending c.read_length.new.disk) alone.same alone.base alone.changes durable in
    joined g.D.Disk.moment g.D.Disk.left_since c.args.disk.now c.read_length.new.disk c.cut_through.new.disk R (OneCut c.args.file c.args.to s1) R first (c.cut_through.ensures.any_moment told still) (λ image is. is)
    (λ image is. subst (λ (s : Image). OneCut c.args.file c.args.to s image) alone.same is)
