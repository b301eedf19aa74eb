use Rattle.std.proofs.Common.{◌≡◌, ℕ, ◌+◌, ◌<◌, ◌≤◌, ◌++◌, List, length, map, get_or, ap, sym, refl, ◌∙◌, subst, arith}
use Rattle.std.proofs.lemmas.List.{get_or_default, length-map}
use Rattle.std.specs.List.{concat}
use Rattle.cdc_cell.specs.Reading.{IsLeftAlone}
use Rattle.cdc_cell.proofs.Alone.{alone_yet, alone_both}
use Rattle.cdc_outside.specs.Disk.{Image}
use Rattle.std.specs.Prelude.{[], Err}
use Rattle.cdc_dumper.specs.Opening.{IsFound}
use Rattle.cdc_list.specs.Lines.{listed_out, out_lines}
use Rattle.cdc_list.specs.Listing.{image_of}
use Rattle.cdc_list.proofs.Zips.{zip_yet, zip_both, zip_many, zip_same, zip_each, later_yet, later_both}
use Rattle.cdc_list.proofs.Ends.{content_is, rose_since, stopped_by}
use Rattle.cdc_list.proofs.Texts.{outs_left, outs_more, outs_all}
use Rattle.cdc_list.proofs.listing.push_each_out.Goals as goal

pub loop-index-init : goal.loop-index-init
loop-index-init g c = record {
  so_far = λ told. refl;
  same_many = refl;
  alone = λ told. zip_yet (IsLeftAlone g.D.Disk.seen g.D.Disk.synced g.D.Disk.pending g.D.Disk.may_leave g.D.Disk.moment g.D.Disk.left_since)
      (alone_yet g.D.Disk.seen g.D.Disk.synced g.D.Disk.pending g.D.Disk.may_leave g.D.Disk.moment g.D.Disk.left_since (λ disk image left. g.met.D.Disk.only_now disk image told left)) c.args.outs.now.items;
  later = later_yet g.D.Disk.faults c.args.outs.now.items;
}

pub returns-in-Err-clause-stopped : goal.returns-in-Err-clause-stopped
returns-in-Err-clause-stopped g c =
    let inv = c.loop-index.invariant in
    let outs = c.args.outs.now.items in
    let images : List Image = map g.D.Disk.seen outs in
    stopped_by g.D.Disk.tells images (map g.D.Disk.faults outs) (map g.D.Disk.faults c.push_out.new.outs.items) (c.loop-index.index + 1) c.in-Err.stop c.end_at.result
    c.end_at.ensures.disk c.end_at.ensures.memory
    (λ is. rose_since g.D.Disk.faults outs c.loop-index.outs.items (map g.D.Disk.faults c.push_out.new.outs.items) (c.loop-index.index + 1) inv.later inv.same_many (c.in-Err.ensures.failed (ap (λ why. Err why) is)))
    (λ told. zip_each IsFound images c.args.fronts.now (c.requires.found told))

pub returns-in-Err-clause-alone : goal.returns-in-Err-clause-alone
returns-in-Err-clause-alone g c told =
    zip_both (IsLeftAlone g.D.Disk.seen g.D.Disk.synced g.D.Disk.pending g.D.Disk.may_leave g.D.Disk.moment g.D.Disk.left_since)
    (alone_both g.D.Disk.seen g.D.Disk.synced g.D.Disk.pending g.D.Disk.may_leave g.D.Disk.moment g.D.Disk.left_since) c.args.outs.now.items c.loop-index.outs.items c.push_out.new.outs.items (c.loop-index.invariant.alone told) (c.push_out.ensures.alone told)

pub returns-in-Err-clause-later : goal.returns-in-Err-clause-later
returns-in-Err-clause-later g c =
    later_both g.D.Disk.faults c.args.outs.now.items c.loop-index.outs.items c.push_out.new.outs.items c.loop-index.invariant.later c.push_out.ensures.later

pub loop-index-preserved : goal.loop-index-preserved
loop-index-preserved g c =
    let inv = c.loop-index.invariant in
    let index : ℕ = c.loop-index.index in
    let outs = c.args.outs.now.items in
    let images : List Image = map g.D.Disk.seen outs in
    let fronts = c.args.fronts.now in
    let image : Image = get_or images index (λ file. []) in
    let within : index < length images = rw length-map (omega (arith, c.requires.many, c.loop-index-test.true)) in
    record {
      so_far = λ told.
          outs_more (c.args.text.now ++ outs_left fronts images 0) c.loop-index.text c.push_out.new.text fronts images index c.index-fronts-index.result image
          c.loop-index-test.true within (sym c.index-fronts-index.is) (get_or_default images index image (λ file. []) within)
          (subst (λ (i : Image). c.push_out.new.text ≡ c.loop-index.text ++ concat (out_lines (index + 1) (listed_out c.index-fronts-index.result i)))
          (content_is images index) (subst (λ (l : List Image). c.push_out.new.text ≡ c.loop-index.text ++ concat (out_lines (index + 1) (listed_out c.index-fronts-index.result (image_of l (index + 1)))))
          (zip_same (IsLeftAlone g.D.Disk.seen g.D.Disk.synced g.D.Disk.pending g.D.Disk.may_leave g.D.Disk.moment g.D.Disk.left_since) g.D.Disk.seen (λ x y alone. alone.same) outs c.loop-index.outs.items (inv.alone told))
          (c.in_default.ensures.told told)))
          (inv.so_far told);
      same_many = zip_many (λ old new. g.D.Disk.faults old ≤ g.D.Disk.faults new) c.loop-index.outs.items c.push_out.new.outs.items c.push_out.ensures.later ∙ inv.same_many;
      alone = λ told.
          zip_both (IsLeftAlone g.D.Disk.seen g.D.Disk.synced g.D.Disk.pending g.D.Disk.may_leave g.D.Disk.moment g.D.Disk.left_since)
          (alone_both g.D.Disk.seen g.D.Disk.synced g.D.Disk.pending g.D.Disk.may_leave g.D.Disk.moment g.D.Disk.left_since) outs c.loop-index.outs.items c.push_out.new.outs.items
          (inv.alone told) (c.push_out.ensures.alone told);
      later = later_both g.D.Disk.faults outs c.loop-index.outs.items c.push_out.new.outs.items inv.later c.push_out.ensures.later;
    }

pub returns-clause-told : goal.returns-clause-told
returns-clause-told g c told =
    outs_all (c.args.text.now ++ outs_left c.args.fronts.now (map g.D.Disk.seen c.args.outs.now.items) 0) c.loop-index.text c.args.fronts.now (map g.D.Disk.seen c.args.outs.now.items) c.loop-index.index
    (omega (arith, c.loop-index-test.false)) (c.loop-index.invariant.so_far told)
