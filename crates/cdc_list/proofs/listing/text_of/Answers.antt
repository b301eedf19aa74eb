use Rattle.std.proofs.Common.{◌≡◌, ℕ, ◌≤◌, ◌++◌, List, map, ap, sym, ◌∙◌, subst}
use Rattle.std.specs.List.{AllZip}
use Rattle.cdc_cell.specs.Reading.{IsLeftAlone}
use Rattle.cdc_cell.proofs.Alone.{alone_both}
use Rattle.cdc_outside.specs.Disk.{Image}
use Rattle.cdc_records.specs.declared.front.Front.{Front}
use Rattle.cdc_dumper.specs.Opening.{IsFound}
use Rattle.cdc_list.specs.Lines.{listed_outs, listing_text}
use Rattle.cdc_list.proofs.Zips.{zip_both, zip_many, zip_same, later_both}
use Rattle.cdc_list.proofs.Ends.{stopped_since}
use Rattle.cdc_list.proofs.listing.text_of.Goals as goal

pub push_each_out-requires-clause-found : goal.push_each_out-requires-clause-found
push_each_out-requires-clause-found g c told =
    let same : map g.D.Disk.seen c.look_at_each.new.outs.items ≡ map g.D.Disk.seen c.args.outs.now.items =
    zip_same (IsLeftAlone g.D.Disk.seen g.D.Disk.synced g.D.Disk.pending g.D.Disk.may_leave g.D.Disk.moment g.D.Disk.left_since) g.D.Disk.seen (λ x y alone. alone.same) c.args.outs.now.items c.look_at_each.new.outs.items
    (c.look_at_each.ensures.alone told) in
    subst (λ (l : List Front). AllZip IsFound (map g.D.Disk.seen c.look_at_each.new.outs.items) l) (sym c.as_slice.ensures)
    (subst (λ (l : List Image). AllZip IsFound l c.in-Ok.fronts) (sym same) (c.in-Ok.ensures.found told))

pub returns-in-Ok-push_each_out-clause-listed : goal.returns-in-Ok-push_each_out-clause-listed
returns-in-Ok-push_each_out-clause-listed g c told =
    let images : List Image = map g.D.Disk.seen c.args.outs.now.items in
    let same : map g.D.Disk.seen c.look_at_each.new.outs.items ≡ images =
    zip_same (IsLeftAlone g.D.Disk.seen g.D.Disk.synced g.D.Disk.pending g.D.Disk.may_leave g.D.Disk.moment g.D.Disk.left_since) g.D.Disk.seen (λ x y alone. alone.same) c.args.outs.now.items c.look_at_each.new.outs.items
    (c.look_at_each.ensures.alone told) in
    record {
      fronts = c.in-Ok.fronts;
      found = c.in-Ok.ensures.found told;
      is =
          c.in-Ok-push_each_out.ensures.told told
          ∙ (ap (λ (l : List ℕ). l ++ listing_text (listed_outs c.as_slice.result.now (map g.D.Disk.seen c.look_at_each.new.outs.items))) c.new-text.ensures
          ∙ (ap (λ (l : List Image). listing_text (listed_outs c.as_slice.result.now l)) same ∙ ap (λ (l : List Front). listing_text (listed_outs l images)) c.as_slice.ensures));
    }

pub returns-in-Ok-push_each_out-clause-alone : goal.returns-in-Ok-push_each_out-clause-alone
returns-in-Ok-push_each_out-clause-alone g c told =
    zip_both (IsLeftAlone g.D.Disk.seen g.D.Disk.synced g.D.Disk.pending g.D.Disk.may_leave g.D.Disk.moment g.D.Disk.left_since)
    (alone_both g.D.Disk.seen g.D.Disk.synced g.D.Disk.pending g.D.Disk.may_leave g.D.Disk.moment g.D.Disk.left_since) c.args.outs.now.items c.look_at_each.new.outs.items c.push_each_out.new.outs.items (c.look_at_each.ensures.alone told) (c.push_each_out.ensures.alone told)

pub returns-in-Ok-push_each_out-clause-later : goal.returns-in-Ok-push_each_out-clause-later
returns-in-Ok-push_each_out-clause-later g c =
    later_both g.D.Disk.faults c.args.outs.now.items c.look_at_each.new.outs.items c.push_each_out.new.outs.items c.look_at_each.ensures.later c.push_each_out.ensures.later

pub returns-clause-stopped : goal.returns-clause-stopped
returns-clause-stopped g c =
    stopped_since g.D.Disk.tells g.D.Disk.seen g.D.Disk.faults c.args.outs.now.items c.look_at_each.new.outs.items (map g.D.Disk.faults c.push_each_out.new.outs.items) c.in-Err-push_each_out.end
    c.look_at_each.ensures.later
    (zip_many (λ old new. g.D.Disk.faults old ≤ g.D.Disk.faults new) c.args.outs.now.items c.look_at_each.new.outs.items c.look_at_each.ensures.later)
    (λ told. zip_same (IsLeftAlone g.D.Disk.seen g.D.Disk.synced g.D.Disk.pending g.D.Disk.may_leave g.D.Disk.moment g.D.Disk.left_since) g.D.Disk.seen (λ x y alone. alone.same) c.args.outs.now.items
    c.look_at_each.new.outs.items (c.look_at_each.ensures.alone told))
    c.in-Err-push_each_out.ensures.stopped

pub returns-clause-alone : goal.returns-clause-alone
returns-clause-alone g c told =
    zip_both (IsLeftAlone g.D.Disk.seen g.D.Disk.synced g.D.Disk.pending g.D.Disk.may_leave g.D.Disk.moment g.D.Disk.left_since)
    (alone_both g.D.Disk.seen g.D.Disk.synced g.D.Disk.pending g.D.Disk.may_leave g.D.Disk.moment g.D.Disk.left_since) c.args.outs.now.items c.look_at_each.new.outs.items c.push_each_out.new.outs.items (c.look_at_each.ensures.alone told) (c.push_each_out.ensures.alone told)

pub returns-clause-later : goal.returns-clause-later
returns-clause-later g c =
    later_both g.D.Disk.faults c.args.outs.now.items c.look_at_each.new.outs.items c.push_each_out.new.outs.items c.look_at_each.ensures.later c.push_each_out.ensures.later
