use Rattle.std.proofs.Common.{◌≡◌, ◌+◌, refl, sym, subst}
use Rattle.cdc_event.specs.declared.fault.FileFault.TheVariants.{Event as EventIsFaulty}
use Rattle.cdc_event.specs.File.{setting_behind, IsFaulty}
use Rattle.cdc_event.specs.View.{event_viewed}
use Rattle.cdc_cutter.specs.declared.cut.Cut.TheVariants.{Event as GivesEvent, Fault as GivesFault}
use Rattle.cdc_cutter.specs.declared.seen.Look.TheVariants.{Unfinished, Wrong, Whole}
use Rattle.cdc_cutter.specs.Looks.{Sees, IsSeen}
use Rattle.cdc_cutter.specs.Cutting.{Cutting, cutter_seen, CutsEvent, behind_cut, cut_viewed}
use Rattle.cdc_cutter.proofs.Pieces.{waits, stops, stops_wrong, cuts, passes_event}
use Rattle.cdc_cutter.proofs.cutter.Cutter.peek_event.Goals as goal

pub returns-in-Unfinished-clause-cut : goal.returns-in-Unfinished-clause-cut
returns-in-Unfinished-clause-cut c =
    let seen = subst (λ v. Sees c.self.inside.checksum v Unfinished) c.bytes-bytes.ensures.value c.in-Unfinished.ensures in
    waits c.args.first (cutter_seen c.self.inside) c.args.self.now c.args.self.now c.self.view_is seen refl

pub returns-in-Wrong-clause-cut : goal.returns-in-Wrong-clause-cut
returns-in-Wrong-clause-cut c =
    let seen = subst (λ v. Sees c.self.inside.checksum v (Wrong c.in-Wrong.fault)) c.bytes-bytes.ensures.value c.in-Wrong.ensures in
    let inside = cutter_seen c.self.inside in
    let cut = GivesFault (record { file = inside.file; at = inside.at }) (EventIsFaulty c.in-Wrong.fault) in
    let here : CutsEvent c.args.first inside (behind_cut inside cut) cut = stops c.args.first inside inside c.in-Wrong.fault refl (stops_wrong c.args.first inside.checksum inside.rest c.in-Wrong.fault seen) cut (behind_cut inside cut) refl refl in
    subst (λ p. CutsEvent c.args.first c.args.self.now (behind_cut c.args.self.now (cut_viewed p)) (cut_viewed p)) (sym c.faulty.ensures)
    (subst (λ (v : Cutting). CutsEvent c.args.first v (behind_cut v cut) cut) c.self.view_is here)

pub returns-in-Ok-clause-cut : goal.returns-in-Ok-clause-cut
returns-in-Ok-clause-cut c =
    let seen = subst (λ v. Sees c.self.inside.checksum v (Whole c.in-Whole.header)) c.bytes-bytes.ensures.value c.in-Whole.ensures in
    let inside = cutter_seen c.self.inside in
    let event = event_viewed c.in-Ok.event in
    let whole = subst (λ v. IsSeen c.args.first c.self.inside.checksum v c.in-Whole.header event) c.bytes-bytes.ensures.value c.in-Ok.ensures in
    let wanted = GivesEvent (record { file = inside.file; at = inside.at }) (record { file = inside.file; at = inside.at + c.in-Whole.header.length }) event (setting_behind inside.checksum event.body) in
    let same : GivesEvent c.self.inside.place c.end_of.result event c.setting_behind.result ≡ wanted
    = λ i. GivesEvent c.self.inside.place (c.end_of.ensures i) event (c.setting_behind.ensures.setting i) in
    let here : CutsEvent c.args.first inside (behind_cut inside wanted) wanted
    = cuts c.args.first inside inside c.in-Whole.header event refl seen.2 whole wanted (behind_cut inside wanted) refl (passes_event inside c.in-Whole.header.length (setting_behind inside.checksum event.body)) in
    subst (λ p. CutsEvent c.args.first c.args.self.now (behind_cut c.args.self.now p) p) (sym same)
    (subst (λ (v : Cutting). CutsEvent c.args.first v (behind_cut v wanted) wanted) c.self.view_is here)

pub returns-in-Err-clause-cut : goal.returns-in-Err-clause-cut
returns-in-Err-clause-cut c =
    let inside = cutter_seen c.self.inside in
    let faulty = subst (λ v. IsFaulty c.args.first c.self.inside.checksum v c.in-Err.fault) c.bytes-bytes.ensures.value c.in-Err.ensures in
    let cut = GivesFault (record { file = inside.file; at = inside.at }) (EventIsFaulty c.in-Err.fault) in
    let here : CutsEvent c.args.first inside (behind_cut inside cut) cut = stops c.args.first inside inside c.in-Err.fault refl faulty cut (behind_cut inside cut) refl refl in
    subst (λ p. CutsEvent c.args.first c.args.self.now (behind_cut c.args.self.now (cut_viewed p)) (cut_viewed p)) (sym c.faulty-in-Err.ensures)
    (subst (λ (v : Cutting). CutsEvent c.args.first v (behind_cut v cut) cut) c.self.view_is here)
