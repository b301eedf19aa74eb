-- What a run comes to are the entries of its events: each list of events has some.
use Rattle.std.proofs.Common.{◌≡◌, inl, inr, ℕ, List, [], ◌∷◌, ◌++◌, Option, Some, None, ap, sym, subst, refl, ◌∙◌}
use Rattle.std.specs.List.{cons_option}
use Rattle.cdc_base.specs.declared.place.Place.{Place}
use Rattle.cdc_event.specs.declared.fault.FileFault.{FileFault}
use Rattle.cdc_model.specs.declared.fault.GroupFault.{GroupFault}
use Rattle.cdc_model.specs.declared.fault.GroupFault.TheVariants.{OutOfPlace}
use Rattle.cdc_model.specs.declared.fault.NodeFault.{NodeFault}
use Rattle.cdc_model.specs.declared.fault.NodeFault.TheVariants.{Group}
use Rattle.cdc_model.specs.Records.{LogEntry}
use Rattle.cdc_model.specs.Sign.{SignedEvent}
use Rattle.cdc_model.specs.Group.{Progress, Out}
use Rattle.cdc_model.specs.Misfit.{misfit}
use Rattle.cdc_model.specs.Entries.{ReadsTo, CeasesToFit, file_fault, AreEntriesOfEvents, EventsHaveEntries}
use Rattle.cdc_model.specs.Advance.{advance, entry_given}
use Rattle.cdc_model.proofs.GroupMachine.{Ending, Reached, Misplaced, judged, outcome}
use Rattle.cdc_model.proofs.GroupRuns.{outcome_led}
use Rattle.cdc_model.proofs.GroupReading.{reads_on, reads_nothing, told_misfits}

-- a run that ceases: the events before the one with which it does, and how far they have come
pub record Ceased (file : ℕ) (progress : Progress) (events : List SignedEvent) (entries : List LogEntry) (misplaced : SignedEvent) (fault : GroupFault) : Type 0 where
  pub front : List SignedEvent
  pub behind : List SignedEvent
  pub last : Progress
  pub events_in_order : events ≡ front ++ misplaced ∷ behind
  pub passes : outcome file progress front ≡ (entries, Reached last)
  pub told : misfit last misplaced.sign ≡ Some fault

-- the event that a run ceases with, and what is wrong with it
abbrev misplaced_by : SignedEvent → Ending → SignedEvent
misplaced_by other (Reached progress) = other
misplaced_by other (Misplaced event fault) = event

abbrev fault_by : Ending → GroupFault
fault_by (Reached progress) = OutOfPlace
fault_by (Misplaced event fault) = fault

pub ceased_first : (file : ℕ) (progress : Progress) (event : SignedEvent) (events : List SignedEvent) (misplaced : SignedEvent) (fault : GroupFault) (told : Option GroupFault)
    → misfit progress event.sign ≡ told
    → ((outcome file (advance progress event.sign) events).1 ≡ Misplaced misplaced fault
    → Ceased file (advance progress event.sign) events (outcome file (advance progress event.sign) events).0 misplaced fault)
    → (judged event told (entry_given file progress event) (outcome file (advance progress event.sign) events)).1 ≡ Misplaced misplaced fault
    → Ceased file progress (event ∷ events) (judged event told (entry_given file progress event) (outcome file (advance progress event.sign) events)).0 misplaced fault
ceased_first file progress event events misplaced fault None fits later is =
    let rest = later is in record {
      front = event ∷ rest.front;
      behind = rest.behind;
      last = rest.last;
      events_in_order = ap (λ (list : List SignedEvent). event ∷ list) rest.events_in_order;
      passes = outcome_led file progress (advance progress event.sign) event rest.front _ record { fits = fits; to = refl; gives = refl }
          ∙ ap (λ (o : List LogEntry × Ending). (cons_option (entry_given file progress event) o.0, o.1)) rest.passes;
      told = rest.told;
    }
ceased_first file progress event events misplaced fault (Some wrong) told later is = record {
  front = [];
  behind = events;
  last = progress;
  events_in_order = ap (λ (e : SignedEvent). e ∷ events) (ap (misplaced_by event) is);
  passes = refl;
  told = ap (λ (e : SignedEvent). misfit progress e.sign) (sym (ap (misplaced_by event) is)) ∙ told ∙ ap (λ (f : GroupFault). Some f) (ap fault_by is);
}

pub ceased : (file : ℕ) (progress : Progress) (events : List SignedEvent) (misplaced : SignedEvent) (fault : GroupFault)
    → (outcome file progress events).1 ≡ Misplaced misplaced fault → Ceased file progress events (outcome file progress events).0 misplaced fault
ceased file progress [] misplaced fault is = absurd (let e = is in cc)
ceased file progress (event ∷ events) misplaced fault is =
    ceased_first file progress event events misplaced fault (misfit progress event.sign) refl (ceased file (advance progress event.sign) events misplaced fault) is

-- the fault of a file by what its run comes to
abbrev pub fault_of : ℕ → Option (ℕ × FileFault) → Ending → Option (Place × NodeFault)
fault_of file ended (Reached progress) = file_fault file ended
fault_of file ended (Misplaced event fault) = Some (record { file = file; at = event.at }, Group fault)

pub entries_by : (file : ℕ) (events : List SignedEvent) (ended : Option (ℕ × FileFault)) (end : Ending) → (outcome file Out events).1 ≡ end
    → AreEntriesOfEvents file events ended (outcome file Out events).0 (fault_of file ended end)
entries_by file events ended (Reached progress) is = inl (progress, reads_on file events [] [] Out progress (reads_nothing file) is, refl)
entries_by file events ended (Misplaced misplaced fault) is = inr (misplaced, fault, ceases, refl)
  where
    found : Ceased file Out events (outcome file Out events).0 misplaced fault
    found = ceased file Out events misplaced fault is

    reads : ReadsTo file found.front (outcome file Out events).0 found.last
    reads =
        subst (λ (list : List LogEntry). ReadsTo file found.front list found.last) (ap (λ (o : List LogEntry × Ending). o.0) found.passes)
        (reads_on file found.front [] [] Out found.last (reads_nothing file) (ap (λ (o : List LogEntry × Ending). o.1) found.passes))

    ceases : CeasesToFit file events (outcome file Out events).0 misplaced fault
    ceases = record {
      front = found.front;
      behind = found.behind;
      progress = found.last;
      events_in_order = found.events_in_order;
      reads = reads;
      ceases = told_misfits file found.front (outcome file Out events).0 found.last misplaced fault reads found.told;
      kind = found.told;
    }

-- the entries of events are what a run over them comes to
pub entries_of_run : (file : ℕ) (events : List SignedEvent) (ended : Option (ℕ × FileFault))
    → AreEntriesOfEvents file events ended (outcome file Out events).0 (fault_of file ended (outcome file Out events).1)
entries_of_run file events ended = entries_by file events ended (outcome file Out events).1 refl

pub events_have_entries : EventsHaveEntries
events_have_entries file events ended = ((outcome file Out events).0, fault_of file ended (outcome file Out events).1, entries_of_run file events ended)
