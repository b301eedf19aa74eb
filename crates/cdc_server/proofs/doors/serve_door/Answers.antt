use Rattle.std.proofs.Common.{◌≡◌, ℕ, List, [], ◌∷◌, ◌++◌, length, refl, sym, ◌∙◌, ap, subst, inl, inr, arith, length-append}
use Rattle.std.proofs.lemmas.List.Elements.{Contains-push_cases}
use Rattle.std.specs.Prelude.{IsTrue}
use Rattle.std.specs.List.{flat_map}
use Rattle.cdc_cell.proofs.Alone.{alone_yet, alone_both}
use Rattle.cdc_outside.specs.Count.{Rose}
use Rattle.cdc_outside.specs.Disk.{Image}
use Rattle.cdc_outside.specs.Link.{Served}
use Rattle.cdc_dumper.specs.declared.fault.OpenFault.{OpenFault}
use Rattle.cdc_session.specs.Shelf.{IsShelf, IsRefusedShelf, HasTornFile}
use Rattle.cdc_server.specs.declared.door_end.DoorEnd.TheVariants as door_end
use Rattle.cdc_server.specs.Ends.{IsCaused}
use Rattle.cdc_server.specs.Links.{DrawList, Drew, Visit, IsServed}
use Rattle.cdc_server.proofs.Causes.{no_cause_yet, cause_more, cause_closed, fault_number, disk_behind, kept_behind, torn_behind, salt_behind}
use Rattle.cdc_server.proofs.Serving.{none_drawn, drew_more, draws_more, links_start, links_more, links_as, caused_later, link_from, given_link, no_visit, rose_later, rose_since}
use Rattle.cdc_server.proofs.doors.serve_door.Goals as goal

pub loop-link-init : goal.loop-link-init
loop-link-init g c = record {
  told = (
    [],
    λ z. none_drawn g.Z.Salt.drawn c.args.salt.now,
    λ d t found is. links_start c.args.users.now c.args.number found (g.G.Door.handed c.args.door.now) (g.G.Door.served c.args.door.now),
    λ visit there. absurd (no_visit visit there),
    no_cause_yet,
  );
  alone = λ told.
      alone_yet g.D.Disk.seen g.D.Disk.synced g.D.Disk.pending g.D.Disk.may_leave g.D.Disk.moment g.D.Disk.left_since (λ disk image left. g.met.D.Disk.only_now disk image told left) c.args.shelf.now;
  disk_later = omega arith;
  salt_later = omega arith;
  door_later = omega arith;
}

pub back-requires : goal.back-requires
back-requires g c told =
    let within = g.met.G.Door.served_within c.loop-link.door told in
    let given =
    given_link g.G.L.Link.input g.G.L.Link.left g.G.L.Link.written g.G.L.Link.faults (g.G.Door.handed c.loop-link.door) (g.G.Door.handed c.next-in-loop-link.new.self) c.in-Ok-Some.field-0
    c.in-Ok-Some.link c.in-Ok-Some.field-0-is (c.in-Ok-Some.ensures.some told) in
    let size = ap (λ l. length l) given.1 in
    let sum = length-append (g.G.Door.handed c.loop-link.door) (g.G.L.Link.input c.in-Ok-Some.link ∷ []) in
    let same = ap (λ (l : List Served). length l) c.in-Ok-Some.ensures.served in
    omega (arith, within, size, sum, same)

pub loop-link-preserved : goal.loop-link-preserved
loop-link-preserved g c =
    let inv = c.loop-link.invariant in
    let t = c.serve_link-link_end.ensures.told in
    let now = c.serve_link-link_end.result in
    let visit : Visit = record { draws = t.0; ending = now } in
    record {
      told = (
        inv.told.0 ++ visit ∷ [],
        λ z.
            subst (λ (l : DrawList). Drew g.Z.Salt.drawn c.args.salt.now l c.serve_link-link_end.new.salt) (sym (draws_more inv.told.0 visit))
            (drew_more g.Z.Salt.drawn c.args.salt.now c.loop-link.salt c.serve_link-link_end.new.salt (flat_map (λ (v : Visit). v.draws) inv.told.0) t.0 (inv.told.1 z) (t.1 z)),
        λ d gt found is.
            let given =
            given_link g.G.L.Link.input g.G.L.Link.left g.G.L.Link.written g.G.L.Link.faults (g.G.Door.handed c.loop-link.door) (g.G.Door.handed c.next-in-loop-link.new.self) c.in-Ok-Some.field-0
            c.in-Ok-Some.link c.in-Ok-Some.field-0-is (c.in-Ok-Some.ensures.some gt) in
            let fresh = given.0 in
            let link = c.serve_link-link_end.new.link in
            let shelf = subst (λ (i : Image). IsShelf i found) (sym (inv.alone d).same) is in
            let entry : Served = record { input = g.G.L.Link.input link; written = g.G.L.Link.written link; faults = g.G.L.Link.faults link; ending = c.number_of.result } in
            let input : g.G.L.Link.left c.in-Ok-Some.link ≡ entry.input = fresh.unread ∙ sym c.serve_link-link_end.ensures.input in
            let served : IsServed c.args.users.now c.args.number found visit entry = record {
              number = c.number_of.ensures;
              follows = link_from c.args.users.now c.args.number found t.0 (g.G.L.Link.written link) now input fresh.unwritten (t.2 d (g.met.G.Door.links_tell gt) found shelf);
              failed = λ e.
                  let one = fault_number now e in
                  let rose : Rose (g.G.L.Link.faults c.in-Ok-Some.link) (g.G.L.Link.faults link) = elim one [ inl a ↦ c.serve_link-link_end.ensures.session_failed a | inr b ↦ c.serve_link-link_end.ensures.login_failed b ] in
                  omega (arith, rose, fresh.unfailed);
            } in
            links_more visit entry (g.G.Door.handed c.back.new.self) (g.G.Door.served c.back.new.self) (inv.told.2 d gt found is) served
            (c.back.ensures.handed ∙ given.1 ∙ ap (λ (l : List ℕ). g.G.Door.handed c.loop-link.door ++ l ∷ []) (sym c.serve_link-link_end.ensures.input))
            (c.back.ensures.served gt ∙ ap (λ (l : List Served). l ++ entry ∷ []) c.in-Ok-Some.ensures.served),
        λ other there. elim (Contains-push_cases inv.told.0 visit other there) [
          | inl before ↦
              caused_later (λ rose. rose_later _ _ _ rose c.serve_link-link_end.ensures.disk_later) (λ rose. rose_later _ _ _ rose c.serve_link-link_end.ensures.salt_later)
              (inv.told.3 other before)
          | inr same ↦
              subst
              (λ (v : Visit). IsCaused v.ending (Rose (g.D.Disk.faults c.args.shelf.now) (g.D.Disk.faults c.serve_link-link_end.new.shelf))
              (λ (fault : OpenFault). IsTrue g.D.Disk.tells → IsRefusedShelf (g.D.Disk.seen c.args.shelf.now) fault)
              (IsTrue g.D.Disk.tells → HasTornFile (g.D.Disk.seen c.args.shelf.now)) (Rose (g.Z.Salt.faults c.args.salt.now) (g.Z.Salt.faults c.serve_link-link_end.new.salt)))
              same
              (record {
                by_disk = λ e. rose_since _ _ _ inv.disk_later (c.serve_link-link_end.ensures.disk_failed e);
                by_output = λ fault e d. subst (λ (i : Image). IsRefusedShelf i fault) (inv.alone d).same (c.serve_link-link_end.ensures.kept d fault e);
                by_file = λ e d. subst (λ (i : Image). HasTornFile i) (inv.alone d).same (c.serve_link-link_end.ensures.torn d e);
                by_salt = λ e. rose_since _ _ _ inv.salt_later (c.serve_link-link_end.ensures.salt_failed e);
              })
        ],
        cause_more inv.told.0 visit c.loop-link.end c.cause_of.result c.first_of-end.result c.cause_of.ensures c.first_of-end.ensures inv.told.4,
      );
      alone = λ told.
          alone_both g.D.Disk.seen g.D.Disk.synced g.D.Disk.pending g.D.Disk.may_leave g.D.Disk.moment g.D.Disk.left_since c.args.shelf.now c.loop-link.shelf c.serve_link-link_end.new.shelf
          (inv.alone told) (c.serve_link-link_end.ensures.alone told);
      disk_later = omega (arith, inv.disk_later, c.serve_link-link_end.ensures.disk_later);
      salt_later = omega (arith, inv.salt_later, c.serve_link-link_end.ensures.salt_later);
      door_later = omega (arith, inv.door_later, c.in-Ok-Some.ensures.faults.later, c.back.ensures.faults);
    }

pub returns-in-Ok-None-clause-disk_failed : goal.returns-in-Ok-None-clause-disk_failed
returns-in-Ok-None-clause-disk_failed g c e =
    let t = c.loop-link.invariant.told in
    disk_behind t.0 door_end.Done c.loop-link.end t.3 (λ same. (let h = same in cc)) t.4 e

pub returns-in-Ok-None-clause-kept : goal.returns-in-Ok-None-clause-kept
returns-in-Ok-None-clause-kept g c d fault e =
    let t = c.loop-link.invariant.told in
    kept_behind t.0 door_end.Done c.loop-link.end t.3 fault (λ same. (let h = same in cc)) t.4 e d

pub returns-in-Ok-None-clause-torn : goal.returns-in-Ok-None-clause-torn
returns-in-Ok-None-clause-torn g c d e =
    let t = c.loop-link.invariant.told in
    torn_behind t.0 door_end.Done c.loop-link.end t.3 (λ same. (let h = same in cc)) t.4 e d

pub returns-in-Ok-None-clause-salt_failed : goal.returns-in-Ok-None-clause-salt_failed
returns-in-Ok-None-clause-salt_failed g c e =
    let t = c.loop-link.invariant.told in
    salt_behind t.0 door_end.Done c.loop-link.end t.3 (λ same. (let h = same in cc)) t.4 e

pub returns-in-Err-clause-served : goal.returns-in-Err-clause-served
returns-in-Err-clause-served g c =
    let inv = c.loop-link.invariant in
    let t = inv.told in
    record {
      visits = t.0;
      closing = door_end.Door;
      drew = t.1;
      links = λ d gt found is.
          links_as (g.G.Door.handed c.next-in-loop-link.new.self) (g.G.Door.served c.next-in-loop-link.new.self) (t.2 d gt found is) (c.in-Err.ensures.err gt) c.in-Err.ensures.served;
      caused = t.3;
      closes = inr (refl, rose_since _ _ _ inv.door_later c.in-Err.ensures.faults.failed);
      alone = inv.alone;
      first = cause_closed t.0 c.loop-link.end c.first_of.result c.first_of.ensures t.4;
    }

pub returns-in-Err-clause-disk_failed : goal.returns-in-Err-clause-disk_failed
returns-in-Err-clause-disk_failed g c e =
    let t = c.loop-link.invariant.told in
    disk_behind t.0 door_end.Door c.first_of.result t.3 (λ same. (let h = same in cc)) (cause_closed t.0 c.loop-link.end c.first_of.result c.first_of.ensures t.4) e

pub returns-in-Err-clause-kept : goal.returns-in-Err-clause-kept
returns-in-Err-clause-kept g c d fault e =
    let t = c.loop-link.invariant.told in
    kept_behind t.0 door_end.Door c.first_of.result t.3 fault (λ same. (let h = same in cc)) (cause_closed t.0 c.loop-link.end c.first_of.result c.first_of.ensures t.4) e d

pub returns-in-Err-clause-torn : goal.returns-in-Err-clause-torn
returns-in-Err-clause-torn g c d e =
    let t = c.loop-link.invariant.told in
    torn_behind t.0 door_end.Door c.first_of.result t.3 (λ same. (let h = same in cc)) (cause_closed t.0 c.loop-link.end c.first_of.result c.first_of.ensures t.4) e d

pub returns-in-Err-clause-salt_failed : goal.returns-in-Err-clause-salt_failed
returns-in-Err-clause-salt_failed g c e =
    let t = c.loop-link.invariant.told in
    salt_behind t.0 door_end.Door c.first_of.result t.3 (λ same. (let h = same in cc)) (cause_closed t.0 c.loop-link.end c.first_of.result c.first_of.ensures t.4) e
