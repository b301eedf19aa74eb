-- What is cut is answered of the bytes that were fed.
use Rattle.std.proofs.Common.{◌≡◌, ℕ, ◌+◌, ◌≤◌, Bool, true, false, List, [], ◌∷◌, ◌++◌, length, refl, ap, sym, ◌∙◌, subst, arith, append_assoc, append-nil, length-append, Option, Some, None, inl}
use Rattle.cdc_base.specs.declared.place.Place.{Place}
use Rattle.cdc_event.specs.declared.fault.EventFault.{EventFault}
use Rattle.cdc_event.specs.declared.fault.FileFault.{FileFault}
use Rattle.cdc_event.specs.declared.fault.FileFault.TheVariants.{BadMagic, Event as EventIsFaulty}
use Rattle.cdc_event.specs.File.{PlacedEvent, setting_behind, IsWhole, IsFaulty, in_header, AreEvents, AreEventsFrom}
use Rattle.cdc_event.proofs.FileReading.{BeginsSo, begins_so, same_first, some_fault, faulty_more, grown}
use Rattle.cdc_cutter.specs.declared.state.CutterState.{CutterState}
use Rattle.cdc_cutter.specs.declared.state.CutterState.TheVariants.{Start, First, Behind, Faulty}
use Rattle.cdc_cutter.specs.declared.cut.Cut.{Cut}
use Rattle.cdc_cutter.specs.declared.cut.Cut.TheVariants.{Event as GivesEvent, Need, Fault as GivesFault}
use Rattle.cdc_cutter.specs.Cutting.{Cutting, AreLeft, Holds, placed_event, Answers, CutsEvent, Cuts}
use Rattle.cdc_cutter.proofs.Holding.{assoc, LeavesAs, holds_as}

assoc_events : (xs ys zs : List PlacedEvent) → (xs ++ ys) ++ zs ≡ xs ++ (ys ++ zs)
assoc_events xs ys zs = simp append_assoc

-- what is left now is what the fed bytes have behind what was given
reading_now : (old : Cutting) (start checksum : ℕ) (fed : List ℕ) (given : List PlacedEvent) (fault : Option (ℕ × FileFault)) → Holds old start checksum fed given →
    AreLeft old.state old.at old.checksum old.rest [] fault → AreEventsFrom start checksum fed given fault
reading_now old start checksum fed given fault h left =
    let here = h.forth [] [] fault (subst (λ v. AreLeft old.state old.at old.checksum v [] fault) (sym (append-nil old.rest)) left) in
    subst (λ v. AreEventsFrom start checksum v given fault) (append-nil fed) (subst (λ v. AreEventsFrom start checksum (fed ++ []) v fault) (append-nil given) here)

-- the states at which an event may begin
record MayBegin (first : Bool) (state : CutterState) : Type 0 where
  to : (at checksum : ℕ) (bytes : List ℕ) (events : List PlacedEvent) (fault : Option (ℕ × FileFault)) → AreLeft state at checksum bytes events fault → AreEvents first at checksum bytes events fault
  from : (at checksum : ℕ) (bytes : List ℕ) (events : List PlacedEvent) (fault : Option (ℕ × FileFault)) → AreEvents first at checksum bytes events fault → AreLeft state at checksum bytes events fault

-- a state in which the next event begins, and the event
record NextEvent (first : Bool) (old new : Cutting) (event : PlacedEvent) : Type 0 where
  begins : MayBegin first old.state
  piece : List ℕ
  rest : List ℕ
  cut : old.rest ≡ piece ++ rest
  whole : IsWhole first old.checksum piece event.event
  at_is : event.at ≡ old.at
  end_is : event.end ≡ old.at + length piece
  checksum_is : event.checksum ≡ setting_behind old.checksum event.event.body
  new_is : new ≡ record { file = old.file; at = event.end; checksum = event.checksum; state = Behind; rest = rest }

next_forth : (first : Bool) (old new : Cutting) (event : PlacedEvent) (n : NextEvent first old new event) (more : List ℕ) (events : List PlacedEvent) (fault : Option (ℕ × FileFault)) →
    AreEvents false event.end event.checksum (n.rest ++ more) events fault → AreLeft old.state old.at old.checksum (old.rest ++ more) (event ∷ events) fault
next_forth first old new event n more events fault left =
    n.begins.from old.at old.checksum (old.rest ++ more) (event ∷ events) fault
    (n.piece, n.rest ++ more, ap (λ v. v ++ more) n.cut ∙ assoc n.piece n.rest more, n.whole, n.at_is, n.end_is, n.checksum_is, left)

-- the piece alone is one event
alone : (first : Bool) (old new : Cutting) (event : PlacedEvent) (n : NextEvent first old new event) → AreEvents first old.at old.checksum n.piece (event ∷ []) None
alone first old new event n = (n.piece, [], sym (append-nil n.piece), n.whole, n.at_is, n.end_is, n.checksum_is, in_header (omega arith))

-- what is left begins with the event
record NextBack (rest : List ℕ) (event : PlacedEvent) (events : List PlacedEvent) (fault : Option (ℕ × FileFault)) : Type 0 where
  later : List PlacedEvent
  begins : events ≡ event ∷ later
  behind : AreEvents false event.end event.checksum rest later fault

next_back : (first : Bool) (old new : Cutting) (event : PlacedEvent) (n : NextEvent first old new event) (more : List ℕ) (events : List PlacedEvent) (fault : Option (ℕ × FileFault)) →
    AreLeft old.state old.at old.checksum (old.rest ++ more) events fault → NextBack (n.rest ++ more) event events fault
next_back first old new event n more events fault left =
    let e : old.rest ++ more ≡ n.piece ++ (n.rest ++ more) = ap (λ v. v ++ more) n.cut ∙ assoc n.piece n.rest more in
    let read = subst (λ v. AreEvents first old.at old.checksum v events fault) e (n.begins.to old.at old.checksum (old.rest ++ more) events fault left) in
    let l = grown first old.at old.checksum n.piece (n.rest ++ more) (event ∷ []) events None fault (alone first old new event n) read in
    let whole = subst (λ v. AreEvents first old.at old.checksum (n.piece ++ (n.rest ++ more)) v fault) l.goes_on read in
    let s : BeginsSo first old.at old.checksum n.piece event [] None = record {
      piece = n.piece;
      rest = [];
      cut = sym (append-nil n.piece);
      whole = n.whole;
      starts = n.at_is;
      ends = n.end_is;
      setting = n.checksum_is;
      behind = in_header (omega arith);
    } in
    let t = begins_so first old.at old.checksum (n.piece ++ (n.rest ++ more)) event l.new fault whole in
    let same = same_first first old.at old.checksum n.piece (n.rest ++ more) event event [] l.new None fault s t in
    record {
      later = l.new;
      begins = l.goes_on;
      behind = subst (λ v. AreEvents false event.end event.checksum v l.new fault) same.one_behind t.behind;
    }

next_holds : (first : Bool) (old new : Cutting) (event : PlacedEvent) (start checksum : ℕ) (fed : List ℕ) (given : List PlacedEvent) → NextEvent first old new event →
    Holds old start checksum fed given → Holds new start checksum fed (given ++ event ∷ [])
next_holds first old new event start checksum fed given n h =
    let counted : old.at + length old.rest ≤ start + length fed = h.counted in
    let ends : event.end ≡ old.at + length n.piece = n.end_is in
    let size : length old.rest ≡ length n.piece + length n.rest = ap length n.cut ∙ length-append n.piece n.rest in
    subst (λ c. Holds c start checksum fed (given ++ event ∷ [])) (sym n.new_is) (record {
      counted = omega arith;
      forth = λ more events fault left.
          subst (λ v. AreEventsFrom start checksum (fed ++ more) v fault) (sym (assoc_events given (event ∷ []) events))
          (h.forth more (event ∷ events) fault (next_forth first old new event n more events fault left));
      back = λ more all fault read.
          let b = h.back more all fault read in
          let k = next_back first old new event n more b.0 fault b.2 in
          (k.later, b.1 ∙ (ap (λ v. given ++ v) k.begins ∙ sym (assoc_events given (event ∷ []) k.later)), k.behind);
    })

-- each reading of the fed bytes begins with what was given
given_first : (new : Cutting) (event : PlacedEvent) (start checksum : ℕ) (fed : List ℕ) (given all : List PlacedEvent) (fault : Option (ℕ × FileFault)) →
    Holds new start checksum fed (given ++ event ∷ []) → AreEventsFrom start checksum fed all fault → (later : List PlacedEvent) × (all ≡ given ++ event ∷ later)
given_first new event start checksum fed given all fault h read =
    let b = h.back [] all fault (subst (λ v. AreEventsFrom start checksum v all fault) (sym (append-nil fed)) read) in
    (b.0, b.1 ∙ assoc_events given (event ∷ []) b.0)

-- a state that stops at a fault
stops_as : (first : Bool) (old : Cutting) (wrong : EventFault) → MayBegin first old.state → IsFaulty first old.checksum old.rest wrong → LeavesAs old (record old { state = Faulty (EventIsFaulty wrong) })
stops_as first old wrong b f = record {
  counted = omega arith;
  forth = λ more events fault left.
      subst (λ v. AreLeft old.state old.at old.checksum (old.rest ++ more) v fault) (sym left.0)
      (subst (λ v. AreLeft old.state old.at old.checksum (old.rest ++ more) [] v) (sym left.1)
      (b.from old.at old.checksum (old.rest ++ more) [] (Some (old.at, EventIsFaulty wrong)) (refl, faulty_more first old.checksum wrong old.rest more f)));
  back = λ more events fault left.
      let l = grown first old.at old.checksum old.rest more [] events (Some (old.at, EventIsFaulty wrong)) fault (refl, f) (b.to old.at old.checksum (old.rest ++ more) events fault left) in
      let s = l.stays (some_fault (old.at, EventIsFaulty wrong)) in
      (l.goes_on ∙ s.0, s.1);
}

cut_event : (first : Bool) (cut : Cut) (old new : Cutting) (start checksum : ℕ) (fed : List ℕ) (given : List PlacedEvent) → MayBegin first old.state →
    CutsEvent first old new cut → Holds old start checksum fed given → Answers start checksum fed given old new cut
cut_event first (GivesEvent at end event setting) old new start checksum fed given b c h =
    let at_is : at.at ≡ old.at = ap (λ (p : Place). p.at) c.4 in
    let end_is : end.at ≡ old.at + length c.0 = ap (λ (p : Place). p.at) c.5 in
    let n : NextEvent first old new (placed_event at end event setting) = record {
      begins = b;
      piece = c.0;
      rest = c.1;
      cut = c.2;
      whole = c.3;
      at_is = at_is;
      end_is = end_is;
      checksum_is = c.6;
      new_is = c.7 ∙ (λ i. record { file = old.file; at = (sym end_is) i; checksum = setting; state = Behind; rest = c.1 });
    } in
    let holds = next_holds first old new (placed_event at end event setting) start checksum fed given n h in
    (holds, λ all fault read. given_first new (placed_event at end event setting) start checksum fed given all fault holds read)
cut_event first Need old new start checksum fed given b c h =
    (subst (λ v. Holds v start checksum fed given) (sym c.1) h, reading_now old start checksum fed given None h (b.from old.at old.checksum old.rest [] None c.0))
cut_event first (GivesFault place BadMagic) old new start checksum fed given b c h = absurd c
cut_event first (GivesFault place (EventIsFaulty wrong)) old new start checksum fed given b c h =
    let here : old.at ≡ place.at = ap (λ (p : Place). p.at) (sym c.1) in
    let read = reading_now old start checksum fed given (Some (old.at, EventIsFaulty wrong)) h (b.from old.at old.checksum old.rest [] (Some (old.at, EventIsFaulty wrong)) (refl, c.0)) in (
      subst (λ v. Holds v start checksum fed given) (sym c.2) (holds_as old (record old { state = Faulty (EventIsFaulty wrong) }) start checksum fed given (stops_as first old wrong b c.0) h),
      subst (λ v. AreEventsFrom start checksum fed given (Some (v, EventIsFaulty wrong))) here read,
    )

begins_first : (state : CutterState) → state ≡ First → MayBegin true state
begins_first state e = subst (MayBegin true) (sym e) (record { to = λ at checksum bytes events fault a. a; from = λ at checksum bytes events fault a. a })

begins_behind : (state : CutterState) → state ≡ Behind → MayBegin false state
begins_behind state e = subst (MayBegin false) (sym e) (record { to = λ at checksum bytes events fault a. a; from = λ at checksum bytes events fault a. a })

-- what is cut is answered
pub answered : (state : CutterState) (cut : Cut) (old new : Cutting) → old.state ≡ state → Cuts state old new cut →
    (start checksum : ℕ) (fed : List ℕ) (given : List PlacedEvent) → Holds old start checksum fed given → Answers start checksum fed given old new cut
answered Start cut old new s c start checksum fed given h =
    let left : AreLeft old.state old.at old.checksum old.rest [] None = subst (λ g. AreLeft g old.at old.checksum old.rest [] None) (sym s) (inl (c.2, refl, refl)) in
    subst (Answers start checksum fed given old new) (sym c.0) (subst (λ v. Holds v start checksum fed given) (sym c.1) h, reading_now old start checksum fed given None h left)
answered First cut old new s c start checksum fed given h = cut_event true cut old new start checksum fed given (begins_first old.state s) c h
answered Behind cut old new s c start checksum fed given h = cut_event false cut old new start checksum fed given (begins_behind old.state s) c h
answered (Faulty wrong) cut old new s c start checksum fed given h =
    let left : AreLeft old.state old.at old.checksum old.rest [] (Some (old.at, wrong)) = subst (λ g. AreLeft g old.at old.checksum old.rest [] (Some (old.at, wrong))) (sym s) (refl, refl) in
    subst (Answers start checksum fed given old new) (sym c.0) (subst (λ v. Holds v start checksum fed given) (sym c.1) h, reading_now old start checksum fed given (Some (old.at, wrong)) h left)
