use Rattle.std.proofs.Common.{◌≡◌, inl, inr, sym, ◌∙◌, subst}
use Rattle.cdc_outside.specs.Disk.{Image, LeavesOnly, IsDurable}
use Rattle.cdc_outside.proofs.Moments.{joined, weaker}
use Rattle.cdc_outside.proofs.Pending.{durable_left}
use Rattle.cdc_cell.proofs.Alone.{still_durable}
use Rattle.cdc_records.specs.declared.front.Front.{Front}
use Rattle.cdc_dumper.specs.Opening.{IsFound, IsTrimmed, IsOldOrTrimmed}
use Rattle.cdc_dumper.proofs.dumper.Dumper.open.Goals as goal

pub returns-in_err-trim-clause-any_moment : goal.returns-in_err-trim-clause-any_moment
returns-in_err-trim-clause-any_moment g c = λ told.
    let s0 : Image = g.D.Disk.seen c.args.disk.now in
    let s1 : Image = g.D.Disk.seen c.settle.new.disk in
    let s2 : Image = g.D.Disk.seen c.find.new.disk in
    let same1 : s1 ≡ s0 = c.settle.ensures.seen told in
    let alone = c.find.ensures.alone told in
    let same2 : s2 ≡ s0 = alone.same ∙ same1 in
    let front : Front = c.in_ok-found.found.front in
    let R : Image → Type 0 = IsOldOrTrimmed (g.D.Disk.may_leave c.args.disk.now) s0 in
    let durable1 : IsDurable s1 (g.D.Disk.synced c.settle.new.disk) (g.D.Disk.pending c.settle.new.disk) = c.in_ok-settle.ensures.durable told in
    let durable2 : IsDurable s2 (g.D.Disk.synced c.find.new.disk) (g.D.Disk.pending c.find.new.disk) = still_durable s1 (g.D.Disk.synced c.settle.new.disk) s2 (g.D.Disk.synced c.find.new.disk) (g.D.Disk.pending c.settle.new.disk) (g.D.Disk.pending c.find.new.disk) alone.same alone.base alone.changes durable1 in
    let found : IsFound s0 front = subst (λ (i : Image). IsFound i front) same1 (c.in_ok-found.ensures.found told) in
    let first : LeavesOnly g.D.Disk.moment g.D.Disk.left_since c.args.disk.now c.settle.new.disk R = weaker g.D.Disk.moment g.D.Disk.left_since c.args.disk.now c.settle.new.disk (g.D.Disk.may_leave c.args.disk.now) R (c.settle.ensures.any_moment told) (λ image may. inl may) in
    let second : LeavesOnly g.D.Disk.moment g.D.Disk.left_since c.args.disk.now c.find.new.disk R = joined g.D.Disk.moment g.D.Disk.left_since c.args.disk.now c.settle.new.disk c.find.new.disk R (g.D.Disk.may_leave c.settle.new.disk) R first alone.any_moment (λ image is. is)
    (λ image may. inl (subst (λ (i : Image). g.D.Disk.may_leave c.args.disk.now i) (sym (durable_left s1 (g.D.Disk.synced c.settle.new.disk) (g.D.Disk.pending c.settle.new.disk) image durable1 (g.met.D.Disk.image_is c.settle.new.disk image told may) ∙ same1)) (g.met.D.Disk.seen_may_stay c.args.disk.now told))) in
    joined g.D.Disk.moment g.D.Disk.left_since c.args.disk.now c.find.new.disk c.trim.new.disk R (IsTrimmed front s2) R second (c.trim.ensures.any_moment told durable2) (λ image is. is)
    (λ image is. inr (front, found, subst (λ (i : Image). IsTrimmed front i image) same2 is))

pub returns-clause-any_moment : goal.returns-clause-any_moment
returns-clause-any_moment g c = λ told.
    let s0 : Image = g.D.Disk.seen c.args.disk.now in
    let s1 : Image = g.D.Disk.seen c.settle.new.disk in
    let s2 : Image = g.D.Disk.seen c.find.new.disk in
    let same1 : s1 ≡ s0 = c.settle.ensures.seen told in
    let alone = c.find.ensures.alone told in
    let same2 : s2 ≡ s0 = alone.same ∙ same1 in
    let front : Front = c.in_ok-found.found.front in
    let R : Image → Type 0 = IsOldOrTrimmed (g.D.Disk.may_leave c.args.disk.now) s0 in
    let durable1 : IsDurable s1 (g.D.Disk.synced c.settle.new.disk) (g.D.Disk.pending c.settle.new.disk) = c.in_ok-settle.ensures.durable told in
    let durable2 : IsDurable s2 (g.D.Disk.synced c.find.new.disk) (g.D.Disk.pending c.find.new.disk) = still_durable s1 (g.D.Disk.synced c.settle.new.disk) s2 (g.D.Disk.synced c.find.new.disk) (g.D.Disk.pending c.settle.new.disk) (g.D.Disk.pending c.find.new.disk) alone.same alone.base alone.changes durable1 in
    let found : IsFound s0 front = subst (λ (i : Image). IsFound i front) same1 (c.in_ok-found.ensures.found told) in
    let first : LeavesOnly g.D.Disk.moment g.D.Disk.left_since c.args.disk.now c.settle.new.disk R = weaker g.D.Disk.moment g.D.Disk.left_since c.args.disk.now c.settle.new.disk (g.D.Disk.may_leave c.args.disk.now) R (c.settle.ensures.any_moment told) (λ image may. inl may) in
    let second : LeavesOnly g.D.Disk.moment g.D.Disk.left_since c.args.disk.now c.find.new.disk R = joined g.D.Disk.moment g.D.Disk.left_since c.args.disk.now c.settle.new.disk c.find.new.disk R (g.D.Disk.may_leave c.settle.new.disk) R first alone.any_moment (λ image is. is)
    (λ image may. inl (subst (λ (i : Image). g.D.Disk.may_leave c.args.disk.now i) (sym (durable_left s1 (g.D.Disk.synced c.settle.new.disk) (g.D.Disk.pending c.settle.new.disk) image durable1 (g.met.D.Disk.image_is c.settle.new.disk image told may) ∙ same1)) (g.met.D.Disk.seen_may_stay c.args.disk.now told))) in
    joined g.D.Disk.moment g.D.Disk.left_since c.args.disk.now c.find.new.disk c.trim.new.disk R (IsTrimmed front s2) R second (c.trim.ensures.any_moment told durable2) (λ image is. is)
    (λ image is. inr (front, found, subst (λ (i : Image). IsTrimmed front i image) same2 is))
