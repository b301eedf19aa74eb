use Rattle.std.proofs.Common.{◌≡◌, ◌+◌, List, inl, sym, ap, subst}
use Rattle.cdc_outside.specs.declared.disk_file.DiskFile.{DiskFile}
use Rattle.cdc_outside.specs.declared.disk_file.DiskFile.TheVariants.{Log}
use Rattle.cdc_outside.specs.Disk.{Image, Change, IsWaiting, LeavesOnly}
use Rattle.cdc_outside.proofs.Moments.{started}
use Rattle.cdc_outside.proofs.Pending.{durable_left}
use Rattle.cdc_cell.specs.Cell.{Knows}
use Rattle.cdc_dumper.specs.State.{DumperState, IsShaped, Stands, keep_of}
use Rattle.cdc_records.specs.Front.{HasFront}
use Rattle.cdc_dumper.specs.Shape.{dumper_seen}
use Rattle.cdc_dumper.specs.Moves.{HasCommitted, SameNext, IsBeforeOrCommitted}
use Rattle.cdc_dumper.proofs.Appending.{shape_of}
use Rattle.cdc_dumper.proofs.Committing.{stands_committed, still_now, committed_sound, committed_above}
use Rattle.cdc_dumper.proofs.dumper.Dumper.commit.Goals as goal

pub store_front-requires-clause-sound : goal.store_front-requires-clause-sound
store_front-requires-clause-sound g c = committed_sound (dumper_seen c.self.inside) c.self.invariant c.if-self.false

pub store_front-requires-clause-above : goal.store_front-requires-clause-above
store_front-requires-clause-above g c = committed_above (dumper_seen c.self.inside) c.self.invariant c.if-self.false

pub returns-then-self-clause-any_moment : goal.returns-then-self-clause-any_moment
returns-then-self-clause-any_moment g c = λ told.
    let s : DumperState = c.args.self.now in
    let s0 : Image = g.D.Disk.seen c.args.disk.now in
    let stands : Stands s s0 (g.D.Disk.synced c.args.disk.now) (g.D.Disk.pending c.args.disk.now) = c.requires.stands told in
    let same : s.appended.count ≡ s.published.count = subst (λ (d : DumperState). d.appended.count ≡ d.published.count) c.self.view_is c.if-self.true in
    started g.D.Disk.moment g.D.Disk.left_since c.args.disk.now (IsBeforeOrCommitted s.published s.appended s0)
    (λ image left. inl (still_now s.published s0 image stands.has (durable_left s0 (g.D.Disk.synced c.args.disk.now) (g.D.Disk.pending c.args.disk.now) image (stands.idle same) (g.met.D.Disk.image_is c.args.disk.now image told (g.met.D.Disk.only_now c.args.disk.now image told left)))))

pub returns-clause-stands : goal.returns-clause-stands
returns-clause-stands g c = λ told.
    let s : DumperState = c.args.self.now in
    let i : DumperState = dumper_seen c.self.inside in
    let s0 : Image = g.D.Disk.seen c.args.disk.now in
    let s1 : Image = g.D.Disk.seen c.store_front.new.disk in
    let shape : IsShaped s = shape_of s i c.self.view_is c.self.invariant in
    let stands : Stands s s0 (g.D.Disk.synced c.args.disk.now) (g.D.Disk.pending c.args.disk.now) = c.requires.stands told in
    let knows : Knows c.self.inside.cell s0 = subst (λ (d : DumperState). Knows d.cell s0) (sym c.self.view_is) stands.knows in
    let has : HasCommitted s.appended s0 s1 = subst (λ (d : DumperState). HasCommitted d.appended s0 s1) c.self.view_is (c.in_ok-store_front.ensures.new told knows) in
    stands_committed s _ s0 s1 (g.D.Disk.synced c.args.disk.now) (g.D.Disk.synced c.store_front.new.disk) (g.D.Disk.pending c.args.disk.now) (g.D.Disk.pending c.store_front.new.disk) stands shape.appended
    (ap (λ (d : DumperState). d.appended) c.self.view_is) (ap (λ (d : DumperState). d.appended) c.self.view_is) (c.in_ok-store_front.ensures.knows told knows) has (c.in_ok-store_front.ensures.durable told)

pub returns-then-self-clause-next_file : goal.returns-then-self-clause-next_file
returns-then-self-clause-next_file g c = λ told alone.
    let s : DumperState = c.args.self.now in
    let s0 : Image = g.D.Disk.seen c.args.disk.now in
    let stands : Stands s s0 (g.D.Disk.synced c.args.disk.now) (g.D.Disk.pending c.args.disk.now) = c.requires.stands told in
    let same : s.appended.count ≡ s.published.count = subst (λ (d : DumperState). d.appended.count ≡ d.published.count) c.self.view_is c.if-self.true in
    started g.D.Disk.moment g.D.Disk.left_since c.args.disk.now (SameNext s.published s0)
    (λ image left. ap (λ (i : Image). i (Log (s.published.file + 1))) (durable_left s0 (g.D.Disk.synced c.args.disk.now) (g.D.Disk.pending c.args.disk.now) image (stands.idle same) (g.met.D.Disk.image_is c.args.disk.now image told (g.met.D.Disk.only_now c.args.disk.now image told left))))

pub returns-in_err-store_front-clause-any_moment : goal.returns-in_err-store_front-clause-any_moment
returns-in_err-store_front-clause-any_moment g c = λ told.
    let s : DumperState = c.args.self.now in
    let s0 : Image = g.D.Disk.seen c.args.disk.now in
    let synced : Image = g.D.Disk.synced c.args.disk.now in
    let pending : DiskFile → List Change = g.D.Disk.pending c.args.disk.now in
    let stands : Stands s s0 synced pending = c.requires.stands told in
    let P : DumperState → Type 0 = λ d. Knows d.cell s0 → HasFront s0 d.published → IsWaiting (keep_of d.published) s0 synced pending
    → LeavesOnly g.D.Disk.moment g.D.Disk.left_since c.args.disk.now c.store_front.new.disk (IsBeforeOrCommitted d.published d.appended s0) in
    let stored : P (dumper_seen c.self.inside) = c.store_front.ensures.any_moment told in
    subst P c.self.view_is stored stands.knows stands.has stands.waiting

pub returns-clause-any_moment : goal.returns-clause-any_moment
returns-clause-any_moment g c = λ told.
    let s : DumperState = c.args.self.now in
    let s0 : Image = g.D.Disk.seen c.args.disk.now in
    let synced : Image = g.D.Disk.synced c.args.disk.now in
    let pending : DiskFile → List Change = g.D.Disk.pending c.args.disk.now in
    let stands : Stands s s0 synced pending = c.requires.stands told in
    let P : DumperState → Type 0 = λ d. Knows d.cell s0 → HasFront s0 d.published → IsWaiting (keep_of d.published) s0 synced pending
    → LeavesOnly g.D.Disk.moment g.D.Disk.left_since c.args.disk.now c.store_front.new.disk (IsBeforeOrCommitted d.published d.appended s0) in
    let stored : P (dumper_seen c.self.inside) = c.store_front.ensures.any_moment told in
    subst P c.self.view_is stored stands.knows stands.has stands.waiting
