use Rattle.std.proofs.Common.{◌≡◌, ◌≤◌, ◌-◌, ◌++◌, ◌∷◌, [], ◌∙◌, ℕ, List, length, take, drop, sym, ap, subst}
use Rattle.cdc_event.specs.View.{event_viewed}
use Rattle.cdc_event.specs.declared.event.Event.{Event}
use Rattle.cdc_cutter.specs.Cutting.{Cutting, Holds, behind_cut, placed_event}
use Rattle.cdc_cutter.specs.declared.cut.Cut.TheVariants.{Event as GivesEvent}
use Rattle.cdc_reader.specs.Fed.{FindsNext}
use Rattle.cdc_reader.specs.declared.follower.Follower.{Follower}
use Rattle.cdc_reader.proofs.Bodies.{seen_there}
use Rattle.cdc_reader.proofs.Following.{follows_event, finds_event, finds_bytes_fault, finds_misfit}
use Rattle.cdc_reader.proofs.follower.Follower.next.Goals as goal

pub body_in-body-requires-clause-most : goal.body_in-body-requires-clause-most
body_in-body-requires-clause-most c =
    let old = c.args.self.now.cutter in
    let event = event_viewed c.in-Event.event in
    let seen = seen_there c.whole_events_are_taken.ensures old.state old (behind_cut old (GivesEvent c.in-Event.at c.in-Event.end event c.in-Event.checksum))
    c.in-Event.at c.in-Event.end event c.in-Event.checksum c.in-Event.ensures.cut in
    subst (λ (bytes : List ℕ). event.header.length ≤ length bytes) (sym c.bytes.ensures) seen.body.most

pub take_view-requires-clause-own : goal.take_view-requires-clause-own
take_view-requires-clause-own c =
    let old = c.args.self.now.cutter in
    let event = event_viewed c.in-Event.event in
    let seen = seen_there c.whole_events_are_taken.ensures old.state old (behind_cut old (GivesEvent c.in-Event.at c.in-Event.end event c.in-Event.checksum))
    c.in-Event.at c.in-Event.end event c.in-Event.checksum c.in-Event.ensures.cut in
    c.body_in-body.ensures ∙ ap (λ (bytes : List ℕ). take (event.header.length - 19) (drop 19 bytes)) c.bytes.ensures ∙ seen.body.is

pub take_view-requires-clause-event : goal.take_view-requires-clause-event
take_view-requires-clause-event c =
    let old = c.args.self.now.cutter in
    let event = event_viewed c.in-Event.event in
    let seen = seen_there c.whole_events_are_taken.ensures old.state old (behind_cut old (GivesEvent c.in-Event.at c.in-Event.end event c.in-Event.checksum))
    c.in-Event.at c.in-Event.end event c.in-Event.checksum c.in-Event.ensures.cut in
    seen.row

pub returns-in-Fault-clause-found : goal.returns-in-Fault-clause-found
returns-in-Fault-clause-found c = λ file start checksum fed own follows.
    finds_bytes_fault c.grown_file_continues.ensures file start checksum c.args.self.now fed own c.in-Fault.place c.in-Fault.fault follows c.in-Fault.ensures.file
    (c.in-Fault.ensures.answer start checksum fed follows.given follows.cut).1

pub returns-in-Ok-clause-found : goal.returns-in-Ok-clause-found
returns-in-Ok-clause-found c = λ file start checksum fed own follows.
    let old : Follower = c.args.self.now in
    let new : Follower = record { cutter = c.pass.new.self; grouper = c.take_view.new.self } in
    let event : Event = event_viewed c.in-Event.event in
    let holds : Holds c.pass.new.self start checksum fed (follows.given ++ placed_event c.in-Event.at c.in-Event.end event c.in-Event.checksum ∷ []) =
    subst (λ (cutter : Cutting). Holds cutter start checksum fed (follows.given ++ placed_event c.in-Event.at c.in-Event.end event c.in-Event.checksum ∷ [])) (sym c.pass.ensures)
    (c.in-Event.ensures.answer start checksum fed follows.given follows.cut).0 in
    let later : c.pass.new.self.file ≡ file = ap (λ (cutter : Cutting). cutter.file) c.pass.ensures ∙ follows.in_file in
    subst (FindsNext file start checksum fed own new) (sym c.found_of.ensures)
    (finds_event file start checksum new fed own c.in-Ok.entry
    (follows_event c.one_event_more.ensures file start checksum old new fed own c.in-Event.at c.in-Event.end event c.in-Event.checksum c.in-Ok.entry follows
    (c.in-Event.ensures.file.0 ∙ follows.in_file) later holds c.in-Ok.ensures.table))

pub returns-in-Some-clause-found : goal.returns-in-Some-clause-found
returns-in-Some-clause-found c = λ file start checksum fed own follows.
    let event : Event = event_viewed c.in-Event.event in
    finds_misfit c.misplaced_event_ends.ensures file start checksum c.args.self.now
    (behind_cut c.args.self.now.cutter (GivesEvent c.in-Event.at c.in-Event.end event c.in-Event.checksum)) c.take_view.new.self fed own
    c.in-Event.at c.in-Event.end event c.in-Event.checksum c.in-Err.error c.in-Some.fault follows c.in-Event.ensures.file.0
    (c.in-Event.ensures.answer start checksum fed follows.given follows.cut).0 c.in-Err.ensures.table (sym c.in-Some.ensures)
