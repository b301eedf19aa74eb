use Rattle.std.proofs.Common.{◌≡◌, ℕ, ◌+◌, ◌<◌, ◌≤◌, ◌++◌, List, length, map, take, ap, sym, refl, ◌∙◌, subst, arith, length-append}
use Rattle.std.proofs.lemmas.List.{length-map}
use Rattle.std.specs.List.{AllByRecursion, AllZip}
use Rattle.cdc_cell.specs.Reading.{IsLeftAlone}
use Rattle.cdc_cell.proofs.Alone.{alone_yet, alone_both}
use Rattle.cdc_outside.specs.Disk.{Image}
use Rattle.std.specs.Prelude.{[], ◌∷◌, Err}
use Rattle.cdc_records.specs.declared.front.Front.{Front}
use Rattle.cdc_dumper.specs.Opening.{IsFound, IsOpenFault, IsFrontOrNone}
use Rattle.cdc_list.specs.Listing.{image_of}
use Rattle.cdc_list.proofs.Zips.{zip_yet, zip_both, zip_many, zip_same, all_push, later_yet, later_both}
use Rattle.cdc_list.proofs.Ends.{content_next, rose_since, unopened}
use Rattle.cdc_list.proofs.listing.look_at_each.Goals as goal

pub loop-index-init : goal.loop-index-init
loop-index-init g c =
    let none : c.new-fronts.result ≡ [] = c.new-fronts.ensures in
    record {
      found = λ told. subst (λ (l : List Front). AllZip IsFound [] l) (sym none) tt;
      many = ap length none;
      shaped = subst (λ (l : List Front). AllByRecursion IsFrontOrNone l) (sym none) tt;
      same_many = refl;
      alone = λ told. zip_yet (IsLeftAlone g.D.Disk.seen g.D.Disk.synced g.D.Disk.pending g.D.Disk.may_leave g.D.Disk.moment g.D.Disk.left_since)
          (alone_yet g.D.Disk.seen g.D.Disk.synced g.D.Disk.pending g.D.Disk.may_leave g.D.Disk.moment g.D.Disk.left_since (λ disk image left. g.met.D.Disk.only_now disk image told left)) c.args.outs.now.items;
      later = later_yet g.D.Disk.faults c.args.outs.now.items;
    }

pub returns-in-Err-clause-stopped : goal.returns-in-Err-clause-stopped
returns-in-Err-clause-stopped g c =
    let inv = c.loop-index.invariant in
    let index : ℕ = c.loop-index.index in
    let outs = c.args.outs.now.items in
    let images : List Image = map g.D.Disk.seen outs in
    let within : index < length images = rw length-map (omega (arith, inv.same_many, c.loop-index-test.true, c.len-index-end.ensures)) in
    unopened g.D.Disk.tells images (map g.D.Disk.faults outs) (map g.D.Disk.faults c.look_at.new.outs.items) index c.loop-index.fronts c.in-Err.fault
    within
    (λ is. rose_since g.D.Disk.faults outs c.loop-index.outs.items (map g.D.Disk.faults c.look_at.new.outs.items) (index + 1) inv.later inv.same_many (c.in-Err.ensures.failed (ap (λ fault. Err fault) is)))
    (λ told. subst (λ (l : List Image). IsOpenFault (image_of l (index + 1)) c.in-Err.fault)
    (zip_same (IsLeftAlone g.D.Disk.seen g.D.Disk.synced g.D.Disk.pending g.D.Disk.may_leave g.D.Disk.moment g.D.Disk.left_since) g.D.Disk.seen (λ x y alone. alone.same) outs c.loop-index.outs.items (inv.alone told)) (c.in-Err.ensures.refused told))
    inv.found

pub returns-in-Err-clause-alone : goal.returns-in-Err-clause-alone
returns-in-Err-clause-alone g c told =
    zip_both (IsLeftAlone g.D.Disk.seen g.D.Disk.synced g.D.Disk.pending g.D.Disk.may_leave g.D.Disk.moment g.D.Disk.left_since)
    (alone_both g.D.Disk.seen g.D.Disk.synced g.D.Disk.pending g.D.Disk.may_leave g.D.Disk.moment g.D.Disk.left_since) c.args.outs.now.items c.loop-index.outs.items c.look_at.new.outs.items (c.loop-index.invariant.alone told) (c.look_at.ensures.alone told)

pub returns-in-Err-clause-later : goal.returns-in-Err-clause-later
returns-in-Err-clause-later g c =
    later_both g.D.Disk.faults c.args.outs.now.items c.loop-index.outs.items c.look_at.new.outs.items c.loop-index.invariant.later c.look_at.ensures.later

pub returns-in-Err-push-clause-alone : goal.returns-in-Err-push-clause-alone
returns-in-Err-push-clause-alone g c told =
    zip_both (IsLeftAlone g.D.Disk.seen g.D.Disk.synced g.D.Disk.pending g.D.Disk.may_leave g.D.Disk.moment g.D.Disk.left_since)
    (alone_both g.D.Disk.seen g.D.Disk.synced g.D.Disk.pending g.D.Disk.may_leave g.D.Disk.moment g.D.Disk.left_since) c.args.outs.now.items c.loop-index.outs.items c.look_at.new.outs.items (c.loop-index.invariant.alone told) (c.look_at.ensures.alone told)

pub returns-in-Err-push-clause-later : goal.returns-in-Err-push-clause-later
returns-in-Err-push-clause-later g c =
    later_both g.D.Disk.faults c.args.outs.now.items c.loop-index.outs.items c.look_at.new.outs.items c.loop-index.invariant.later c.look_at.ensures.later

pub loop-index-preserved : goal.loop-index-preserved
loop-index-preserved g c =
    let inv = c.loop-index.invariant in
    let index : ℕ = c.loop-index.index in
    let outs = c.args.outs.now.items in
    let images : List Image = map g.D.Disk.seen outs in
    let within : index < length images = rw length-map (omega (arith, inv.same_many, c.loop-index-test.true, c.len-index-end.ensures)) in
    let more : c.push.new.self ≡ c.loop-index.fronts ++ c.in-Ok.front ∷ [] = c.in-Ok-push.ensures.ok in
    record {
      found = λ told.
          subst (λ (l : List Front). AllZip IsFound (take (index + 1) images) l) (sym more)
          (content_next images index c.loop-index.fronts c.in-Ok.front within (inv.found told)
          (subst (λ (l : List Image). IsFound (image_of l (index + 1)) c.in-Ok.front)
          (zip_same (IsLeftAlone g.D.Disk.seen g.D.Disk.synced g.D.Disk.pending g.D.Disk.may_leave g.D.Disk.moment g.D.Disk.left_since) g.D.Disk.seen (λ x y alone. alone.same) outs c.loop-index.outs.items (inv.alone told)) (c.in-Ok.ensures.found told)));
      many = ap length more ∙ omega (arith, length-append c.loop-index.fronts (c.in-Ok.front ∷ []), inv.many);
      shaped = subst (λ (l : List Front). AllByRecursion IsFrontOrNone l) (sym more) (all_push IsFrontOrNone c.loop-index.fronts c.in-Ok.front inv.shaped c.in-Ok.ensures.shaped);
      same_many = zip_many (λ old new. g.D.Disk.faults old ≤ g.D.Disk.faults new) c.loop-index.outs.items c.look_at.new.outs.items c.look_at.ensures.later ∙ inv.same_many;
      alone = λ told.
          zip_both (IsLeftAlone g.D.Disk.seen g.D.Disk.synced g.D.Disk.pending g.D.Disk.may_leave g.D.Disk.moment g.D.Disk.left_since)
          (alone_both g.D.Disk.seen g.D.Disk.synced g.D.Disk.pending g.D.Disk.may_leave g.D.Disk.moment g.D.Disk.left_since) outs c.loop-index.outs.items c.look_at.new.outs.items
          (inv.alone told) (c.look_at.ensures.alone told);
      later = later_both g.D.Disk.faults outs c.loop-index.outs.items c.look_at.new.outs.items inv.later c.look_at.ensures.later;
    }
