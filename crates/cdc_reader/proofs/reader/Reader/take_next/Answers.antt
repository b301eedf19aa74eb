use Rattle.std.proofs.Common.{◌≡◌, ◌∙◌, Some, refl, ap, sym, subst}
use Rattle.cdc_base.specs.declared.place.Place.{Place}
use Rattle.cdc_model.specs.declared.fault.NodeFault.{NodeFault}
use Rattle.cdc_reader.specs.declared.step.NodeEnd.TheVariants.{Open, Memory as NoMemory, Fault as Faulty}
use Rattle.cdc_reader.specs.Filling.{FindsInLog}
use Rattle.cdc_reader.specs.Standing.{ReaderState, IsFeeding, IsReading}
use Rattle.cdc_reader.proofs.Steps.{feeding_still, event_passed, events_taken, event_ends, event_found, first_sound, stands_faulty}
use Rattle.cdc_reader.proofs.reader.Reader.take_next.Goals as goal

no_memory_open : NoMemory ≡ Open → ⊥
no_memory_open e = cc

no_fault_open : (place : Place) (fault : NodeFault) → Faulty place fault ≡ Open → ⊥
no_fault_open place fault e = cc

pub returns-in-Err-clause-takes : goal.returns-in-Err-clause-takes
returns-in-Err-clause-takes c = λ tells files reading taken feed reads goes_on given.
    let here = subst (λ (r : ReaderState). IsReading tells files r reading taken feed) (sym c.self.view_is) reads in
    let opened = ap (λ (r : ReaderState). r.end) c.self.view_is ∙ goes_on in
    event_ends tells files _
    record { log = c.next.new.self; sorter = c.self.inside.sorter; entries = c.self.inside.entries; told = c.self.inside.told; end = c.self.inside.end } reading taken feed NoMemory here opened given refl refl refl no_memory_open
    (λ read.
    first_sound reading.from files c.self.inside.log taken here.feeding.sound read)

pub returns-in-Nothing-clause-takes : goal.returns-in-Nothing-clause-takes
returns-in-Nothing-clause-takes c = λ tells files reading taken feed reads goes_on given.
    let here = subst (λ (r : ReaderState). IsReading tells files r reading taken feed) (sym c.self.view_is) reads in
    let opened = ap (λ (r : ReaderState). r.end) c.self.view_is ∙ goes_on in
    event_passed tells files _ _ reading taken feed here opened given refl refl refl refl c.next.ensures.place.0 c.next.ensures.place.1 c.next.ensures.place.2
    (λ read.
    subst (FindsInLog reading.from files c.next.new.self.follower c.next.new.self.place taken) c.in-Nothing.is (c.in-Ok.ensures.finds reading.from files taken read))

pub returns-in-Need-clause-takes : goal.returns-in-Need-clause-takes
returns-in-Need-clause-takes c = λ tells files reading taken feed reads goes_on given.
    let here = subst (λ (r : ReaderState). IsReading tells files r reading taken feed) (sym c.self.view_is) reads in
    let opened = ap (λ (r : ReaderState). r.end) c.self.view_is ∙ goes_on in
    events_taken tells files _ _ reading taken feed here opened given refl refl refl refl c.next.ensures.place.0 c.next.ensures.place.1 c.next.ensures.place.2
    (λ read.
    subst (FindsInLog reading.from files c.next.new.self.follower c.next.new.self.place taken) c.in-Need.is (c.in-Ok.ensures.finds reading.from files taken read))

pub returns-in-Fault-clause-takes : goal.returns-in-Fault-clause-takes
returns-in-Fault-clause-takes c = λ tells files reading taken feed reads goes_on given.
    let here = subst (λ (r : ReaderState). IsReading tells files r reading taken feed) (sym c.self.view_is) reads in
    let opened = ap (λ (r : ReaderState). r.end) c.self.view_is ∙ goes_on in
    event_ends tells files _
    record { log = c.next.new.self; sorter = c.self.inside.sorter; entries = c.self.inside.entries; told = c.self.inside.told; end = c.self.inside.end } reading taken feed (Faulty c.in-Fault.place c.in-Fault.fault) here opened given refl refl refl
    (no_fault_open c.in-Fault.place c.in-Fault.fault)
    (λ read.
    stands_faulty reading.from files taken (Some (c.in-Fault.place, c.in-Fault.fault)) here.feeding.sound
    (subst (FindsInLog reading.from files c.next.new.self.follower c.next.new.self.place taken) c.in-Fault.is (c.in-Ok.ensures.finds reading.from files taken read)))

pub returns-in-Entry-clause-takes : goal.returns-in-Entry-clause-takes
returns-in-Entry-clause-takes c = λ tells files reading taken feed reads goes_on given.
    let here = subst (λ (r : ReaderState). IsReading tells files r reading taken feed) (sym c.self.view_is) reads in
    let opened = ap (λ (r : ReaderState). r.end) c.self.view_is ∙ goes_on in
    c.take_found.ensures.takes tells files reading taken feed
    (event_found tells files _ _ reading taken feed c.in-Entry.entry here opened given refl refl refl refl c.next.ensures.place.0 c.next.ensures.place.1 c.next.ensures.place.2
    (λ read.
    subst (FindsInLog reading.from files c.next.new.self.follower c.next.new.self.place taken) c.in-Entry.is (c.in-Ok.ensures.finds reading.from files taken read)))

pub returns-in-Entry-clause-known : goal.returns-in-Entry-clause-known
returns-in-Entry-clause-known c = λ reading taken feed f.
    let here = subst (λ (r : ReaderState). IsFeeding r reading taken feed) (sym c.self.view_is) f in
    c.take_found.ensures.known reading taken feed
    (feeding_still _ _ reading taken feed here here.sorted refl refl) ∙ ap (λ (r : ReaderState). r.sorter.trail.known) c.self.view_is
