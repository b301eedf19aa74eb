use Rattle.std.proofs.Common.{◌≡◌, ◌-◌, ◌≤◌, ℕ, List, length, take, drop, sym, subst, ap, arith}
use Rattle.std.specs.Prelude.{Ok, Err}
use Rattle.cdc_outside.specs.Disk.{Image}
use Rattle.cdc_cell.proofs.Alone.{alone_both}
use Rattle.cdc_index.specs.Shelf.{Shows, TellsEvent}
use Rattle.cdc_index.proofs.ChainLemmas.{walk_on, walk_stops, walk_done}
use Rattle.cdc_index.proofs.scan.walk.Goals as goal

pub returns-in-Err-clause-told : goal.returns-in-Err-clause-told
returns-in-Err-clause-told g c told within shown =
    let content : List ℕ = g.D.Disk.seen c.args.disk.now c.args.file in
    let place : ℕ = c.loop-place.place in
    let left : ℕ = c.args.limit - place in
    let same : g.D.Disk.seen c.loop-place.disk c.args.file ≡ content = ap (λ (f : Image). f c.args.file) (c.loop-place.invariant.alone told).same in
    let before = subst (λ (l : List ℕ). Shows l c.loop-place.window c.loop-place.part.from c.loop-place.part.size) (sym same) (c.loop-place.invariant.shown told shown) in
    let there : left ≤ length (g.D.Disk.seen c.loop-place.disk c.args.file) - place = subst (λ (l : List ℕ). left ≤ length l - place) (sym same) (omega (arith, within)) in
    walk_stops content c.args.limit c.args.at place c.loop-place.found c.in-Err.fault c.loop-place-test.true within (c.loop-place.invariant.so_far told within shown)
    (subst (λ (l : List ℕ). TellsEvent (take left (drop place l)) (Err c.in-Err.fault)) same (c.in-Err.ensures.told told before there))

pub loop-place-preserved : goal.loop-place-preserved
loop-place-preserved g c =
    let invariant = c.loop-place.invariant in
    let place : ℕ = c.loop-place.place in
    let left : ℕ = c.args.limit - place in
    let content : List ℕ = g.D.Disk.seen c.args.disk.now c.args.file in
    record {
      within = omega (arith, c.in-Ok.ensures.within.1, c.loop-place-test.true);
      behind = omega (arith, invariant.behind);
      room = omega (arith, invariant.room, c.next_event.auto.window);
      before = omega (arith, c.in-Ok.ensures.before);
      size = c.in-Ok.ensures.size;
      alone = λ told.
          alone_both g.D.Disk.seen g.D.Disk.synced g.D.Disk.pending g.D.Disk.may_leave g.D.Disk.moment g.D.Disk.left_since c.args.disk.now c.loop-place.disk c.next_event.new.disk
          (invariant.alone told) (c.in-Ok.ensures.alone told);
      shown = λ told shown.
          let same : g.D.Disk.seen c.loop-place.disk c.args.file ≡ content = ap (λ (f : Image). f c.args.file) (invariant.alone told).same in
          subst (λ (l : List ℕ). Shows l c.next_event.new.window c.next_event.new.part.from c.next_event.new.part.size) same
          (c.in-Ok.ensures.shown told (subst (λ (l : List ℕ). Shows l c.loop-place.window c.loop-place.part.from c.loop-place.part.size) (sym same) (invariant.shown told shown)));
      so_far = λ told within shown.
          let same : g.D.Disk.seen c.loop-place.disk c.args.file ≡ content = ap (λ (f : Image). f c.args.file) (invariant.alone told).same in
          let before = subst (λ (l : List ℕ). Shows l c.loop-place.window c.loop-place.part.from c.loop-place.part.size) (sym same) (invariant.shown told shown) in
          let there : left ≤ length (g.D.Disk.seen c.loop-place.disk c.args.file) - place = subst (λ (l : List ℕ). left ≤ length l - place) (sym same) (omega (arith, within)) in
          walk_on content c.args.limit c.args.at place c.in-Ok.size c.loop-place.found c.is_reached-found.result invariant.within (invariant.so_far told within shown)
          (subst (λ (l : List ℕ). TellsEvent (take left (drop place l)) (Ok c.in-Ok.size)) same (c.in-Ok.ensures.told told before there)) c.is_reached-found.ensures;
      later = omega (arith, invariant.later, c.in-Ok.ensures.later);
    }

pub returns-clause-told : goal.returns-clause-told
returns-clause-told g c told within shown =
    walk_done (g.D.Disk.seen c.args.disk.now c.args.file) c.args.limit c.args.at c.loop-place.place c.loop-place.found
    (omega (arith, c.loop-place-test.false)) (c.loop-place.invariant.so_far told within shown)
