use Rattle.std.proofs.Common.{◌≡◌, ◌+◌, Err, drop, refl, ap, ◌∙◌, subst}
use Rattle.cdc_event.specs.declared.fault.ReadError.TheVariants.{Fault as IsFault}
use Rattle.cdc_event.specs.declared.fault.FileFault.TheVariants.{Event as EventIsFaulty}
use Rattle.cdc_event.specs.File.{setting_behind}
use Rattle.cdc_cutter.specs.declared.cut.Cut.TheVariants.{Fault as GivesFault}
use Rattle.cdc_cutter.specs.declared.state.CutterState.TheVariants.{Behind, Faulty}
use Rattle.cdc_cutter.specs.declared.seen.Look.TheVariants.{Unfinished, Wrong, Whole}
use Rattle.cdc_cutter.specs.Looks.{Sees}
use Rattle.cdc_cutter.specs.Cutting.{Cutting, cutter_seen, CutsEvent}
use Rattle.cdc_cutter.proofs.Pieces.{waits, stops, stops_wrong, cuts}
use Rattle.cdc_cutter.proofs.cutter.Cutter.cut_event.Goals as goal

pub returns-in-Unfinished-clause-cut : goal.returns-in-Unfinished-clause-cut
returns-in-Unfinished-clause-cut c =
    let seen = subst (λ v. Sees c.self.inside.checksum v Unfinished) c.bytes.ensures.value c.in-Unfinished.ensures in
    waits c.args.first (cutter_seen c.self.inside) c.args.self.now c.args.self.now c.self.view_is seen refl

pub returns-in-Wrong-clause-cut : goal.returns-in-Wrong-clause-cut
returns-in-Wrong-clause-cut c =
    let seen = subst (λ v. Sees c.self.inside.checksum v (Wrong c.in-Wrong.fault)) c.bytes.ensures.value c.in-Wrong.ensures in
    let inside = cutter_seen c.self.inside in
    stops c.args.first inside c.args.self.now c.in-Wrong.fault c.self.view_is (stops_wrong c.args.first inside.checksum inside.rest c.in-Wrong.fault seen) c.stop.result c.stop.new.self c.stop.ensures.cut c.stop.ensures.new

pub returns-in-Ok-clause-cut : goal.returns-in-Ok-clause-cut
returns-in-Ok-clause-cut c =
    let seen = subst (λ v. Sees c.self.inside.checksum v (Whole c.in-Whole.header)) c.bytes.ensures.value c.in-Whole.ensures in
    let inside = cutter_seen c.self.inside in
    let size = c.in-Whole.header.length in
    let setting = setting_behind inside.checksum c.in-Ok.event.body in
    let new : c.give.new.self ≡ record { file = inside.file; at = inside.at + size; checksum = setting; state = Behind; rest = drop size inside.rest }
    = c.give.ensures.new ∙ (λ i. record { file = inside.file; at = inside.at + size; checksum = setting; state = Behind; rest = drop size (c.read_piece.ensures.kept i) }) in
    let here = cuts c.args.first inside inside c.in-Whole.header c.in-Ok.event refl seen.2 c.in-Ok.ensures.event c.give.result c.give.new.self c.give.ensures.cut new in
    subst (λ (v : Cutting). CutsEvent c.args.first v c.give.new.self c.give.result) c.self.view_is here

pub returns-in-Err-Fault-clause-cut : goal.returns-in-Err-Fault-clause-cut
returns-in-Err-Fault-clause-cut c =
    let inside = cutter_seen c.self.inside in
    let fault = c.in-Err-Fault.fault in
    let named : c.read_piece.result ≡ Err (IsFault fault) = c.in-Err-Fault.is ∙ ap Err c.in-Err-Fault.field-0-is in
    let cut : c.stop-in-Err-Fault.result ≡ GivesFault (record { file = inside.file; at = inside.at }) (EventIsFaulty fault)
    = c.stop-in-Err-Fault.ensures.cut ∙ ap (λ f. GivesFault (record { file = inside.file; at = inside.at }) (EventIsFaulty f)) c.in-Err-Fault.fault-is in
    let new : c.stop-in-Err-Fault.new.self ≡ record { file = inside.file; at = inside.at; checksum = inside.checksum; state = Faulty (EventIsFaulty fault); rest = inside.rest }
    = c.stop-in-Err-Fault.ensures.new ∙ (λ i. record { file = inside.file; at = inside.at; checksum = inside.checksum; state = Faulty (EventIsFaulty (c.in-Err-Fault.fault-is i)); rest = c.read_piece.ensures.kept i }) in
    let here = stops c.args.first inside inside fault refl (c.read_piece.ensures.fault fault named) c.stop-in-Err-Fault.result c.stop-in-Err-Fault.new.self cut new in
    subst (λ (v : Cutting). CutsEvent c.args.first v c.stop-in-Err-Fault.new.self c.stop-in-Err-Fault.result) c.self.view_is here
