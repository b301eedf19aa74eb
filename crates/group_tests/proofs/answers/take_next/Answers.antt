use Rattle.std.proofs.Common.{◌≡◌, ℕ, true, false, subst}
use Rattle.cdc_base.specs.declared.place.Place.{Place}
use Rattle.cdc_event.specs.declared.event.Event.{Event}
use Rattle.cdc_cutter.specs.declared.state.CutterState.{CutterState}
use Rattle.cdc_cutter.specs.declared.state.CutterState.TheVariants.{Start, First, Behind, Faulty}
use Rattle.cdc_cutter.specs.declared.cut.Cut.{Cut}
use Rattle.cdc_cutter.specs.declared.cut.Cut.TheVariants.{Event as GivesEvent, Need, Fault as GivesFault}
use Rattle.cdc_cutter.specs.Cutting.{Cutting, Cuts}
use Rattle.cdc_event.specs.declared.fault.FileFault.{FileFault}
use Rattle.cdc_model.specs.Row.{IsRow}
use Rattle.cdc_group.specs.Taking.{WholeEventsAreTaken}
use Rattle.group_tests.proofs.answers.take_next.Goals as goal

no_need : (at end : Place) (event : Event) (setting : ℕ) → GivesEvent at end event setting ≡ Need → ⊥
no_need at end event setting e = cc

no_fault : (at end place : Place) (event : Event) (setting : ℕ) (fault : FileFault) → GivesEvent at end event setting ≡ GivesFault place fault → ⊥
no_fault at end place event setting fault e = cc

-- what is cut is a whole event
cut_row : WholeEventsAreTaken → (state : CutterState) (old new : Cutting) (at end : Place) (event : Event) (setting : ℕ)
    → Cuts state old new (GivesEvent at end event setting) → IsRow (event.header.kind, event.body)
cut_row law Start old new at end event setting cuts = absurd (no_need at end event setting cuts.0)
cut_row law First old new at end event setting cuts = law true old.checksum cuts.0 event cuts.3
cut_row law Behind old new at end event setting cuts = law false old.checksum cuts.0 event cuts.3
cut_row law (Faulty fault) old new at end event setting cuts =
    absurd (no_fault at end record { file = old.file; at = old.at } event setting fault cuts.0)

pub take-requires : goal.take-requires
take-requires c =
    cut_row c.whole_events_are_taken.ensures c.args.cutter.now.state c.args.cutter.now c.next.new.self c.in-Event.at c.in-Event.end c.in-Event.event c.in-Event.checksum
    (subst (Cuts c.args.cutter.now.state c.args.cutter.now c.next.new.self) c.in-Event.is c.in_ok-at.ensures.cut)
