-- What a cutter answers where it passes an event, waits or stops.
use Rattle.std.proofs.Common.{◌≡◌, ℕ, ◌+◌, ◌-◌, ◌≤◌, Bool, List, length, take, drop, sym, ◌∙◌, subst, refl, arith, Result, Ok, Err, IfOk}
use Rattle.std.proofs.lemmas.List.{length-take, take-append-drop}
use Rattle.cdc_event.specs.declared.header.Header.{Header}
use Rattle.cdc_event.specs.declared.event.Event.{Event}
use Rattle.cdc_event.specs.declared.fault.EventFault.{EventFault}
use Rattle.cdc_event.specs.declared.fault.FileFault.TheVariants.{Event as EventIsFaulty}
use Rattle.cdc_event.specs.File.{setting_behind, IsWhole, IsFaulty, by_length, IsUnfinished}
use Rattle.cdc_cutter.specs.declared.state.CutterState.TheVariants.{Behind, Faulty}
use Rattle.cdc_cutter.specs.declared.cut.Cut.{Cut}
use Rattle.cdc_cutter.specs.declared.cut.Cut.TheVariants.{Event as GivesEvent, Need, Fault as GivesFault}
use Rattle.cdc_cutter.specs.Looks.{Sees, IsSeen}
use Rattle.cdc_cutter.specs.declared.seen.Look.TheVariants.{Wrong}
use Rattle.cdc_cutter.specs.Cutting.{Cutting, CutsEvent, passed_to}

-- a cutter that waits
pub waits : (first : Bool) (inside old new : Cutting) → inside ≡ old → IsUnfinished inside.checksum inside.rest → new ≡ old → CutsEvent first old new Need
waits first inside old new e u n = (subst (λ (v : Cutting). IsUnfinished v.checksum v.rest) e u, n)

-- a cutter that stops
pub stops : (first : Bool) (inside old : Cutting) (wrong : EventFault) → inside ≡ old → IsFaulty first inside.checksum inside.rest wrong →
    (cut : Cut) (new : Cutting) → cut ≡ GivesFault (record { file = old.file; at = old.at }) (EventIsFaulty wrong) → new ≡ record old { state = Faulty (EventIsFaulty wrong) } → CutsEvent first old new cut
stops first inside old wrong e f cut new c n =
    subst (CutsEvent first old new) (sym c) (subst (λ (v : Cutting). IsFaulty first v.checksum v.rest wrong) e f, refl, n)

-- a header whose length no event has
pub stops_wrong : (first : Bool) (checksum : ℕ) (bytes : List ℕ) (wrong : EventFault) → Sees checksum bytes (Wrong wrong) → IsFaulty first checksum bytes wrong
stops_wrong first checksum bytes wrong s = by_length s.0 (drop 19 bytes) s.1 s.2

-- a cutter that passes an event
pub cuts : (first : Bool) (inside old : Cutting) (header : Header) (event : Event) → inside ≡ old → header.length ≤ length inside.rest → IsSeen first inside.checksum inside.rest header event →
    (cut : Cut) (new : Cutting) → cut ≡ GivesEvent (record { file = old.file; at = old.at }) (record { file = old.file; at = old.at + header.length }) event (setting_behind old.checksum event.body) →
    new ≡ record { file = old.file; at = old.at + header.length; checksum = setting_behind old.checksum event.body; state = Behind; rest = drop header.length old.rest } → CutsEvent first old new cut
cuts first inside old header event e h w cut new c n =
    let size = header.length in
    let within : size ≤ length old.rest = subst (λ (v : Cutting). size ≤ length v.rest) e h in
    let whole : IsWhole first old.checksum (take size old.rest) event = subst (λ (v : Cutting). IsWhole first v.checksum (take size v.rest) event) e w in
    let taken : size ≡ length (take size old.rest) = omega (arith, length-take size old.rest) in
    subst (CutsEvent first old new) (sym c) (
      take size old.rest,
      drop size old.rest,
      sym (take-append-drop size old.rest),
      whole,
      refl,
      (λ i. record { file = old.file; at = old.at + taken i }),
      refl,
      n ∙ (λ i. record { file = old.file; at = old.at + taken i; checksum = setting_behind old.checksum event.body; state = Behind; rest = drop size old.rest }),
    )

-- a cutter that has passed its bytes up to the end of an event
pub passes_event : (old : Cutting) (size setting : ℕ) → passed_to old (old.at + size) setting ≡ record { file = old.file; at = old.at + size; checksum = setting; state = Behind; rest = drop size old.rest }
passes_event old size setting =
    let less : (old.at + size) - old.at ≡ size = omega arith in
    λ i. record { file = old.file; at = old.at + size; checksum = setting; state = Behind; rest = drop (less i) old.rest }

pub if_ok : {A E : Type 0} (result : Result A E) {P Q : A → Type 0} → IfOk result P → ((value : A) → P value → Q value) → IfOk result Q
if_ok (Ok value) p f = f value p
if_ok (Err error) p f = tt
