use Rattle.std.proofs.Common.{◌≡◌, ℕ, ◌+◌, ◌-◌, ◌^◌, refl, ap, sym, ◌∙◌, subst, arith}
use Rattle.std.specs.Prelude.{Err}
use Rattle.cdc_outside.specs.Disk.{Image}
use Rattle.cdc_cell.proofs.Alone.{alone_yet, alone_both}
use Rattle.cdc_session.specs.Shelf.{IsShelf, IsRefusedShelf, HasTornFile}
use Rattle.cdc_session.proofs.Requests.{serving_starts, serving_more, serving_ends, serving_over}
use Rattle.cdc_session.proofs.serving.session.Goals as goal

pub loop-served-init : goal.loop-served-init
loop-served-init g c = record {
  alone = λ told.
      alone_yet g.D.Disk.seen g.D.Disk.synced g.D.Disk.pending g.D.Disk.may_leave g.D.Disk.moment g.D.Disk.left_since (λ disk image left. g.met.D.Disk.only_now disk image told left) c.args.shelf.now;
  so_far = λ told tells found is. serving_starts found (g.L.Link.left c.args.link.now) (g.L.Link.written c.args.link.now);
  disk_later = omega arith;
  link_later = omega arith;
  input = refl;
}

pub returns-in-Err-clause-told : goal.returns-in-Err-clause-told
returns-in-Err-clause-told g c told tells found is =
    let inv = c.loop-served.invariant in
    let less : ℕ = 2 ^ 62 - (c.loop-served._served + 1) in
    let one : less + 1 ≡ 2 ^ 62 - c.loop-served._served = omega arith in
    let here = subst (λ (i : Image). IsShelf i found) (sym (inv.alone told).same) is in
    serving_ends (g.L.Link.written c.serve_one.new.link) less c.in-Err.end (inv.so_far told tells found is) one (c.in-Err.ensures.told told tells found less here)

pub returns-in-Err-clause-kept : goal.returns-in-Err-clause-kept
returns-in-Err-clause-kept g c told fault e =
    subst (λ (i : Image). IsRefusedShelf i fault) (c.loop-served.invariant.alone told).same (c.in-Err.ensures.kept told fault (ap Err e))

pub returns-in-Err-clause-torn : goal.returns-in-Err-clause-torn
returns-in-Err-clause-torn g c told e =
    subst (λ (i : Image). HasTornFile i) (c.loop-served.invariant.alone told).same (c.in-Err.ensures.torn told (ap Err e))

pub loop-served-preserved : goal.loop-served-preserved
loop-served-preserved g c =
    let inv = c.loop-served.invariant in
    let less : ℕ = 2 ^ 62 - (c.loop-served._served + 1) in
    let one : less + 1 ≡ 2 ^ 62 - c.loop-served._served = omega arith in
    record {
      alone = λ told.
          alone_both g.D.Disk.seen g.D.Disk.synced g.D.Disk.pending g.D.Disk.may_leave g.D.Disk.moment g.D.Disk.left_since c.args.shelf.now c.loop-served.shelf c.serve_one.new.shelf
          (inv.alone told) (c.in_default.ensures.alone told);
      so_far = λ told tells found is.
          let here = subst (λ (i : Image). IsShelf i found) (sym (inv.alone told).same) is in
          serving_more less (g.L.Link.left c.serve_one.new.link) (g.L.Link.written c.serve_one.new.link) (inv.so_far told tells found is) one
          (c.in_default.ensures.told told tells found less here);
      disk_later = omega (arith, inv.disk_later, c.in_default.ensures.disk_later);
      link_later = omega (arith, inv.link_later, c.in_default.ensures.link_later);
      input = c.in_default.ensures.input ∙ inv.input;
    }

pub returns-clause-told : goal.returns-clause-told
returns-clause-told g c told tells found is = serving_over (c.loop-served.invariant.so_far told tells found is) (omega arith)
