-- An answer speaks of the file in which the cutter is, and a cutter that needs more has met no fault.
use Rattle.std.proofs.Common.{◌≡◌, ap, sym, ◌∙◌, subst, refl, true, false, Bool}
use Rattle.cdc_base.specs.declared.place.Place.{Place}
use Rattle.cdc_event.specs.declared.fault.FileFault.TheVariants.{BadMagic, Event as EventIsFaulty}
use Rattle.cdc_cutter.specs.declared.state.CutterState.{CutterState}
use Rattle.cdc_cutter.specs.declared.state.CutterState.TheVariants.{Start, First, Behind, Faulty}
use Rattle.cdc_cutter.specs.declared.cut.Cut.{Cut}
use Rattle.cdc_cutter.specs.declared.cut.Cut.TheVariants.{Event as GivesEvent, Need, Fault as GivesFault}
use Rattle.cdc_cutter.specs.Cutting.{Cutting, CutsEvent, Cuts, IsInFile, IsGoingOn}

event_in_file : (first : Bool) (cut : Cut) (old new : Cutting) → CutsEvent first old new cut → (new.file ≡ old.file) × IsInFile old.file cut
event_in_file first (GivesEvent at end event setting) old new c = (ap (λ (v : Cutting). v.file) c.7, (ap (λ (p : Place). p.file) c.4, ap (λ (p : Place). p.file) c.5))
event_in_file first Need old new c = (ap (λ (v : Cutting). v.file) c.1, tt)
event_in_file first (GivesFault place BadMagic) old new c = absurd c
event_in_file first (GivesFault place (EventIsFaulty wrong)) old new c = (ap (λ (v : Cutting). v.file) c.2, ap (λ (p : Place). p.file) c.1)

pub in_file : (state : CutterState) (cut : Cut) (old new : Cutting) → Cuts state old new cut → (new.file ≡ old.file) × IsInFile old.file cut
in_file Start cut old new c = (ap (λ (v : Cutting). v.file) c.1, subst (IsInFile old.file) (sym c.0) tt)
in_file First cut old new c = event_in_file true cut old new c
in_file Behind cut old new c = event_in_file false cut old new c
in_file (Faulty fault) cut old new c = (ap (λ (v : Cutting). v.file) c.1, subst (IsInFile old.file) (sym c.0) refl)

stays : (state : CutterState) (old new : Cutting) → old.state ≡ state → new ≡ old → IsGoingOn state → IsGoingOn new.state
stays state old new s e g = subst (λ (v : Cutting). IsGoingOn v.state) (sym e) (subst IsGoingOn (sym s) g)

pub going_on : (state : CutterState) (cut : Cut) (old new : Cutting) → old.state ≡ state → Cuts state old new cut → cut ≡ Need → IsGoingOn new.state
going_on Start cut old new s c e = stays Start old new s c.1 tt
going_on First cut old new s c e = let w : CutsEvent true old new Need = subst (CutsEvent true old new) e c in stays First old new s w.1 tt
going_on Behind cut old new s c e = let w : CutsEvent false old new Need = subst (CutsEvent false old new) e c in stays Behind old new s w.1 tt
going_on (Faulty fault) cut old new s c e = let other : GivesFault (record { file = old.file; at = old.at }) fault ≡ Need = sym c.0 ∙ e in absurd (cc)
