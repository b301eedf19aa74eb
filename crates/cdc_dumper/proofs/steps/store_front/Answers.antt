use Rattle.std.proofs.Common.{◌≡◌, ℕ, ◌+◌, ◌-◌, inl, refl, sym, ◌∙◌, subst}
use Rattle.cdc_outside.specs.declared.disk_file.DiskFile.{DiskFile}
use Rattle.cdc_outside.specs.Disk.{Image, LeavesOnly}
use Rattle.cdc_outside.proofs.Moments.{joined, weaker}
use Rattle.cdc_outside.proofs.Waiting.{waiting_kept}
use Rattle.cdc_cell.specs.Record.{IsOldOrNew}
use Rattle.cdc_cell.specs.Cell.{target_of, Knows}
use Rattle.cdc_dumper.specs.State.{keep_of, keep_alone}
use Rattle.cdc_dumper.specs.Moves.{SameNext, IsBeforeOrCommitted}
use Rattle.cdc_dumper.proofs.Images.{still_kept, before_or_committed, next_kept, next_stored}
use Rattle.cdc_dumper.proofs.steps.store_front.Goals as goal

pub returns-in_err-settle-clause-any_moment : goal.returns-in_err-settle-clause-any_moment
returns-in_err-settle-clause-any_moment g c = λ told knows has waits.
    let s0 : Image = g.D.Disk.seen c.args.disk.now in
    let R : Image → Type 0 = IsBeforeOrCommitted c.args.old.now c.args.front.now s0 in
    weaker g.D.Disk.moment g.D.Disk.left_since c.args.disk.now c.settle.new.disk (g.D.Disk.may_leave c.args.disk.now) R (c.settle.ensures.any_moment told)
    (λ image may. inl (still_kept c.args.old.now s0 image has (waiting_kept (keep_of c.args.old.now) s0 (g.D.Disk.synced c.args.disk.now) (g.D.Disk.pending c.args.disk.now) image waits (g.met.D.Disk.image_is c.args.disk.now image told may))))

pub returns-clause-any_moment : goal.returns-clause-any_moment
returns-clause-any_moment g c = λ told knows has waits.
    let s0 : Image = g.D.Disk.seen c.args.disk.now in
    let s1 : Image = g.D.Disk.seen c.settle.new.disk in
    let same : s1 ≡ s0 = c.settle.ensures.seen told in
    let R : Image → Type 0 = IsBeforeOrCommitted c.args.old.now c.args.front.now s0 in
    let first : LeavesOnly g.D.Disk.moment g.D.Disk.left_since c.args.disk.now c.settle.new.disk R =
    weaker g.D.Disk.moment g.D.Disk.left_since c.args.disk.now c.settle.new.disk (g.D.Disk.may_leave c.args.disk.now) R (c.settle.ensures.any_moment told)
    (λ image may. inl (still_kept c.args.old.now s0 image has (waiting_kept (keep_of c.args.old.now) s0 (g.D.Disk.synced c.args.disk.now) (g.D.Disk.pending c.args.disk.now) image waits (g.met.D.Disk.image_is c.args.disk.now image told may)))) in
    let slot : DiskFile = target_of c.args.cell.now in
    let number : ℕ = c.args.front.now.count + c.args.front.now.first - 1 in
    let knows_now : Knows c.args.cell.now s1 = subst (λ (s : Image). Knows c.args.cell.now s) (sym same) knows in
    let P2 : Image → Type 0 = IsOldOrNew slot number c.as_slice.result.now s1 in
    joined g.D.Disk.moment g.D.Disk.left_since c.args.disk.now c.settle.new.disk c.store.new.disk R P2 R first (c.store.ensures.any_moment told (c.in_ok-settle.ensures.durable told) knows_now)
    (λ image is. is)
    (λ image is. before_or_committed c.args.old.now c.args.front.now slot number c.as_slice.result.now s0 image has c.requires.sound refl (c.as_slice.ensures.value ∙ c.front_record-record.ensures)
    (subst (λ (s : Image). IsOldOrNew slot number c.as_slice.result.now s image) same is))

pub returns-in_err-settle-clause-next_file : goal.returns-in_err-settle-clause-next_file
returns-in_err-settle-clause-next_file g c = λ told knows waits.
    let s0 : Image = g.D.Disk.seen c.args.disk.now in
    weaker g.D.Disk.moment g.D.Disk.left_since c.args.disk.now c.settle.new.disk (g.D.Disk.may_leave c.args.disk.now) (SameNext c.args.old.now s0) (c.settle.ensures.any_moment told)
    (λ image may. next_kept c.args.old.now s0 image (waiting_kept (keep_alone c.args.old.now) s0 (g.D.Disk.synced c.args.disk.now) (g.D.Disk.pending c.args.disk.now) image waits (g.met.D.Disk.image_is c.args.disk.now image told may)))

pub returns-clause-next_file : goal.returns-clause-next_file
returns-clause-next_file g c = λ told knows waits.
    let s0 : Image = g.D.Disk.seen c.args.disk.now in
    let s1 : Image = g.D.Disk.seen c.settle.new.disk in
    let same : s1 ≡ s0 = c.settle.ensures.seen told in
    let R : Image → Type 0 = SameNext c.args.old.now s0 in
    let first : LeavesOnly g.D.Disk.moment g.D.Disk.left_since c.args.disk.now c.settle.new.disk R =
    weaker g.D.Disk.moment g.D.Disk.left_since c.args.disk.now c.settle.new.disk (g.D.Disk.may_leave c.args.disk.now) R (c.settle.ensures.any_moment told)
    (λ image may. next_kept c.args.old.now s0 image (waiting_kept (keep_alone c.args.old.now) s0 (g.D.Disk.synced c.args.disk.now) (g.D.Disk.pending c.args.disk.now) image waits (g.met.D.Disk.image_is c.args.disk.now image told may))) in
    let slot : DiskFile = target_of c.args.cell.now in
    let number : ℕ = c.args.front.now.count + c.args.front.now.first - 1 in
    let knows_now : Knows c.args.cell.now s1 = subst (λ (s : Image). Knows c.args.cell.now s) (sym same) knows in
    let P2 : Image → Type 0 = IsOldOrNew slot number c.as_slice.result.now s1 in
    joined g.D.Disk.moment g.D.Disk.left_since c.args.disk.now c.settle.new.disk c.store.new.disk R P2 R first (c.store.ensures.any_moment told (c.in_ok-settle.ensures.durable told) knows_now)
    (λ image is. is)
    (λ image is. next_stored c.args.old.now slot number c.as_slice.result.now s0 image (subst (λ (s : Image). IsOldOrNew slot number c.as_slice.result.now s image) same is))
