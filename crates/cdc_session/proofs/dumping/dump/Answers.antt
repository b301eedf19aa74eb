use Rattle.std.proofs.Common.{◌≡◌, ℕ, List, refl, sym, subst}
use Rattle.std.specs.Prelude.{Ok, Err}
use Rattle.cdc_outside.specs.Disk.{Image}
use Rattle.cdc_session.specs.declared.session_end.SessionEnd.{SessionEnd}
use Rattle.cdc_session.specs.Following.{FollowsAnswer}
use Rattle.cdc_session.specs.Reply.{shelf_answer}
use Rattle.cdc_session.specs.Shelf.{Shelf, shelf_files}
use Rattle.cdc_session.proofs.Answering.{one_shelf, refused_shelf}
use Rattle.cdc_session.proofs.dumping.dump.Goals as goal

pub returns-in-Ok-clause-told : goal.returns-in-Ok-clause-told
returns-in-Ok-clause-told g c told tells found is =
    let image : Image = g.D.Disk.seen c.args.shelf.now in
    let same : found ≡ Ok (shelf_files c.in-Ok.front image) =
    one_shelf image found (Ok (shelf_files c.in-Ok.front image)) is record { front = c.in-Ok.front; found = c.in-Ok.ensures.found told; are = refl } in
    subst (λ (s : Shelf). FollowsAnswer (shelf_answer s c.args.at c.args.flags c.args.name.now) c.args.sequence (g.L.Link.written c.args.link.now) (g.L.Link.written c.dump_front.new.link) c.dump_front.result)
    (sym same) (c.dump_front.ensures.told told tells image (c.in-Ok.ensures.alone told).same)

pub returns-in-Err-clause-told : goal.returns-in-Err-clause-told
returns-in-Err-clause-told g c told tells found is =
    let before : List ℕ = g.L.Link.written c.args.link.now in
    subst (λ (e : SessionEnd). FollowsAnswer {X = Unit {0}} (shelf_answer found c.args.at c.args.flags c.args.name.now) c.args.sequence before before (Err e)) (sym c.refusal.ensures)
    (refused_shelf (g.D.Disk.seen c.args.shelf.now) found c.in-Err.fault c.args.at c.args.flags c.args.name.now c.args.sequence before is (c.in-Err.ensures.refused told))
