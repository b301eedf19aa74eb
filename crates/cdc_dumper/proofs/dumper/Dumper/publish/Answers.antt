use Rattle.std.proofs.Common.{◌≡◌, inl, sym, ◌∙◌, ap, subst}
use Rattle.std.proofs.lemmas.Result.{on_ok_weaker}
use Rattle.cdc_outside.specs.Disk.{Image, LeavesOnly}
use Rattle.cdc_outside.proofs.Moments.{joined, weaker}
use Rattle.cdc_model.specs.Records.{OutputUnit}
use Rattle.cdc_records.specs.declared.front.Front.{Front}
use Rattle.cdc_dumper.specs.State.{DumperState}
use Rattle.cdc_dumper.specs.Moves.{front_with, StillHas, SameNext, IsAppended, IsBeforeOrCommitted, IsBeforeOrNew}
use Rattle.cdc_dumper.proofs.Committing.{near_next, before_or_new, new_of}
use Rattle.cdc_dumper.proofs.dumper.Dumper.publish.Goals as goal

pub append-requires-clause-near : goal.append-requires-clause-near
append-requires-clause-near g c = near_next c.args.self.now.published c.args.unit.now c.starts_at-place.result c.starts_at-place.ensures c.requires.before

pub returns-clause-any_moment : goal.returns-clause-any_moment
returns-clause-any_moment g c = λ told.
    let s : DumperState = c.args.self.now in
    let f : Front = s.published in
    let unit : OutputUnit = c.args.unit.now in
    let s0 : Image = g.D.Disk.seen c.args.disk.now in
    let s1 : Image = g.D.Disk.seen c.append.new.disk in
    let R : Image → Type 0 = IsBeforeOrNew f unit s0 in
    let P2 : Image → Type 0 = IsBeforeOrCommitted c.append.new.self.published c.append.new.self.appended s1 in
    let run : LeavesOnly g.D.Disk.moment g.D.Disk.left_since c.args.disk.now c.append.new.disk (StillHas f s0) = c.append.ensures.any_moment told in
    let still : StillHas f s0 s1 = run.each s1 (g.met.D.Disk.counts_now c.append.new.disk (g.D.Disk.moment c.args.disk.now) s1 told run.later (g.met.D.Disk.seen_may_stay c.append.new.disk told)) in
    let appended : IsAppended f unit s0 s1 = subst (λ (h : Front). IsAppended h unit s0 s1) c.requires.settled (c.in_ok-append.ensures.new told) in
    let ahead : c.append.new.self.appended ≡ front_with f unit = c.in_ok-append.ensures.appended ∙ ap (λ (h : Front). front_with h unit) c.requires.settled in
    joined g.D.Disk.moment g.D.Disk.left_since c.args.disk.now c.append.new.disk c.commit.new.disk R P2 R
    (weaker g.D.Disk.moment g.D.Disk.left_since c.args.disk.now c.append.new.disk (StillHas f s0) R run (λ image is. inl is))
    (c.commit.ensures.any_moment told) (λ image is. is)
    (λ image is. before_or_new f c.append.new.self.published c.append.new.self.appended unit s0 s1 image c.append.ensures.published ahead still appended is)

pub returns-clause-new : goal.returns-clause-new
returns-clause-new g c = λ told.
    let s : DumperState = c.args.self.now in
    let f : Front = s.published in
    let unit : OutputUnit = c.args.unit.now in
    let s0 : Image = g.D.Disk.seen c.args.disk.now in
    let s1 : Image = g.D.Disk.seen c.append.new.disk in
    let appended : IsAppended f unit s0 s1 = subst (λ (h : Front). IsAppended h unit s0 s1) c.requires.settled (c.in_ok-append.ensures.new told) in
    let ahead : c.append.new.self.appended ≡ front_with f unit = c.in_ok-append.ensures.appended ∙ ap (λ (h : Front). front_with h unit) c.requires.settled in
    on_ok_weaker c.commit.result (λ has. new_of f c.append.new.self.appended unit s0 s1 (g.D.Disk.seen c.commit.new.disk) ahead appended has) (c.commit.ensures.new told)

pub returns-clause-next_file : goal.returns-clause-next_file
returns-clause-next_file g c = λ told is.
    let f : Front = c.args.self.now.published in
    let unit : OutputUnit = c.args.unit.now in
    let s0 : Image = g.D.Disk.seen c.args.disk.now in
    let s1 : Image = g.D.Disk.seen c.append.new.disk in
    let R : Image → Type 0 = SameNext f s0 in
    let run : LeavesOnly g.D.Disk.moment g.D.Disk.left_since c.args.disk.now c.append.new.disk R = c.append.ensures.next_file told is in
    let next : SameNext f s0 s1 = run.each s1 (g.met.D.Disk.counts_now c.append.new.disk (g.D.Disk.moment c.args.disk.now) s1 told run.later (g.met.D.Disk.seen_may_stay c.append.new.disk told)) in
    let alone : c.append.new.self.appended.file ≡ c.append.new.self.published.file =
    ap (λ (h : Front). h.file) c.in_ok-append.ensures.appended ∙ is ∙ sym (ap (λ (h : Front). h.file) c.append.ensures.published) in
    joined g.D.Disk.moment g.D.Disk.left_since c.args.disk.now c.append.new.disk c.commit.new.disk R (SameNext c.append.new.self.published s1) R run
    (c.commit.ensures.next_file told alone) (λ image same. same)
    (λ image same. subst (λ (h : Front). SameNext h s1 image) c.append.ensures.published same ∙ next)
