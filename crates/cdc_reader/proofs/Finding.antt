-- What is found in a file's bytes holds whatever more of the file is fed.
use Rattle.std.proofs.Common.{◌≡◌, ℕ, List, [], ◌∷◌, ◌++◌, map, Option, Some, None, inl, ap, sym, subst, refl, ◌∙◌, append_assoc, append-nil}
use Rattle.std.proofs.lemmas.List.{map-append}
use Rattle.cdc_base.specs.declared.place.Place.{Place}
use Rattle.cdc_event.specs.declared.fault.FileFault.{FileFault}
use Rattle.cdc_event.specs.File.{PlacedEvent, AreEventsFrom, FilesHaveOneReading, GrownFileContinues}
use Rattle.cdc_cutter.specs.Cutting.{Cutting, Holds, AreLeft}
use Rattle.cdc_model.specs.declared.fault.GroupFault.{GroupFault}
use Rattle.cdc_model.specs.declared.fault.NodeFault.{NodeFault}
use Rattle.cdc_model.specs.declared.fault.NodeFault.TheVariants.{File, Group}
use Rattle.cdc_model.specs.Records.{LogEntry}
use Rattle.cdc_model.specs.Sign.{SignedEvent, signed}
use Rattle.cdc_model.specs.Group.{Progress, Out}
use Rattle.cdc_model.specs.Misfit.{misfit}
use Rattle.cdc_model.specs.Entries.{ReadsTo, AreEntriesOfEvents}
use Rattle.cdc_model.specs.Advance.{MisplacedEventEnds}
use Rattle.cdc_model.proofs.GroupMachine.{Ending, outcome}
use Rattle.cdc_model.proofs.GroupRuns.{joined, outcome_append}
use Rattle.cdc_model.proofs.GroupReading.{reads_to_run}
use Rattle.cdc_model.proofs.GroupOutcome.{fault_of}
use Rattle.cdc_model.proofs.LogReading.{listed, closed, run_of_entries, same_entries}
use Rattle.cdc_model.proofs.RestOfLog.{closed_is}
use Rattle.cdc_reader.specs.Fed.{AreFedEntries, EndsFile}

-- the same events have one list of entries
pub one_of_events : (file : ℕ) (events : List SignedEvent) (ended : Option (ℕ × FileFault)) (entries others : List LogEntry) (fault other : Option (Place × NodeFault))
    → AreEntriesOfEvents file events ended entries fault → AreEntriesOfEvents file events ended others other → (entries ≡ others) × (fault ≡ other)
one_of_events file events ended entries others fault other first second =
    same_entries entries others fault other
    (run_of_entries file events ended entries fault first ∙ sym (run_of_entries file events ended others other second))

-- and so have the same bytes
pub one_fed : FilesHaveOneReading → (file start checksum : ℕ) (fed : List ℕ) (entries others : List LogEntry) (fault other : Option (Place × NodeFault))
    → AreFedEntries file start checksum fed entries fault → AreFedEntries file start checksum fed others other → (entries ≡ others) × (fault ≡ other)
one_fed one file start checksum fed entries others fault other (events, ended, read, first) (events2, ended2, read2, second) =
    let same = one start checksum fed events events2 ended ended2 read read2 in
    one_of_events file (map signed events2) ended2 entries others fault other
    (subst (λ (list : List PlacedEvent). AreEntriesOfEvents file (map signed list) ended2 entries fault) same.0
    (subst (λ (e : Option (ℕ × FileFault)). AreEntriesOfEvents file (map signed events) e entries fault) same.1 first)) second

-- the entries that were found, and more
abbrev pub BeginsWithOwn : List LogEntry → List LogEntry → Type 0
BeginsWithOwn own entries = (later : List LogEntry) × (entries ≡ own ++ later)

pub begins_with_own : (file start checksum : ℕ) (cutter : Cutting) (fed more : List ℕ) (given : List PlacedEvent) (own : List LogEntry) (progress : Progress)
    (entries : List LogEntry) (fault : Option (Place × NodeFault)) → Holds cutter start checksum fed given → ReadsTo file (map signed given) own progress
    → AreFedEntries file start checksum (fed ++ more) entries fault → BeginsWithOwn own entries
begins_with_own file start checksum cutter fed more given own progress entries fault holds reads (events, ended, read, are) =
    by (holds.back more events ended read)
  where
    by : ((rest : List PlacedEvent) × (events ≡ given ++ rest) × AreLeft cutter.state cutter.at cutter.checksum (cutter.rest ++ more) rest ended) → BeginsWithOwn own entries
    by (rest, is, left) =
        let o : List LogEntry × Ending = outcome file progress (map signed rest) in
        let run : outcome file Out (map signed events) ≡ (own ++ o.0, o.1) =
        ap (outcome file Out) (ap (map signed) is ∙ map-append signed given rest)
        ∙ outcome_append file Out (map signed given) (map signed rest)
        ∙ ap (λ (r : List LogEntry × Ending). joined file r (map signed rest)) (reads_to_run file (map signed given) own progress reads) in
        let all : listed entries fault ≡ listed (own ++ o.0) (fault_of file ended o.1) =
        run_of_entries file (map signed events) ended entries fault are ∙ ap (closed file ended) run ∙ closed_is file ended (own ++ o.0, o.1) in
        (o.0, (same_entries entries (own ++ o.0) fault (fault_of file ended o.1) all).0)

-- the events so far are all of what was fed
pub all_found : (file start checksum : ℕ) (fed : List ℕ) (given : List PlacedEvent) (own : List LogEntry) (progress : Progress)
    → AreEventsFrom start checksum fed given None → ReadsTo file (map signed given) own progress → AreFedEntries file start checksum fed own None
all_found file start checksum fed given own progress read reads = (given, None, read, inl (progress, reads, refl))

no_fault : (fault : ℕ × FileFault) → Some fault ≡ None → ⊥
no_fault fault e = cc

-- a fault of the bytes ends the file's entries
pub ends_by_bytes : GrownFileContinues → (file start checksum : ℕ) (fed : List ℕ) (given : List PlacedEvent) (own : List LogEntry) (progress : Progress)
    (at : ℕ) (wrong : FileFault) → AreEventsFrom start checksum fed given (Some (at, wrong)) → ReadsTo file (map signed given) own progress
    → EndsFile file start checksum fed own (Some (record { file = file; at = at }, File wrong))
ends_by_bytes grown file start checksum fed given own progress at wrong read reads more entries ended (events, fault, read2, are) =
    let kept = grown start checksum fed more given events (Some (at, wrong)) fault read read2 in
    let stays = kept.stays (no_fault (at, wrong)) in
    let same : events ≡ given = kept.goes_on ∙ ap (λ (list : List PlacedEvent). given ++ list) stays.0 ∙ append-nil given in
    let here : AreEntriesOfEvents file (map signed given) (Some (at, wrong)) entries ended =
    subst (λ (list : List PlacedEvent). AreEntriesOfEvents file (map signed list) (Some (at, wrong)) entries ended) same
    (subst (λ (e : Option (ℕ × FileFault)). AreEntriesOfEvents file (map signed events) e entries ended) stays.1 are) in
    one_of_events file (map signed given) (Some (at, wrong)) entries own ended (Some (record { file = file; at = at }, File wrong)) here
    (inl (progress, reads, refl))

-- an event that doesn't fit ends them
pub ends_by_event : MisplacedEventEnds → (file start checksum : ℕ) (cutter : Cutting) (fed : List ℕ) (given : List PlacedEvent) (placed : PlacedEvent)
    (own : List LogEntry) (progress : Progress) (wrong : GroupFault) → Holds cutter start checksum fed (given ++ placed ∷ [])
    → ReadsTo file (map signed given) own progress → misfit progress (signed placed).sign ≡ Some wrong
    → EndsFile file start checksum fed own (Some (record { file = file; at = placed.at }, Group wrong))
ends_by_event law file start checksum cutter fed given placed own progress wrong holds reads misfits more entries ended (events, fault, read, are) =
    by (holds.back more events fault read)
  where
    by : ((rest : List PlacedEvent) × (events ≡ (given ++ placed ∷ []) ++ rest) × AreLeft cutter.state cutter.at cutter.checksum (cutter.rest ++ more) rest fault)
        → (entries ≡ own) × (ended ≡ Some (record { file = file; at = placed.at }, Group wrong))
    by (rest, is, left) =
        let path : map signed events ≡ map signed given ++ signed placed ∷ map signed rest =
        ap (map signed) (is ∙ append_assoc given (placed ∷ []) rest) ∙ map-append signed given (placed ∷ rest) in
        one_of_events file (map signed given ++ signed placed ∷ map signed rest) fault entries own ended (Some (record { file = file; at = placed.at }, Group wrong))
        (subst (λ (list : List SignedEvent). AreEntriesOfEvents file list fault entries ended) path are)
        (law file (map signed given) (map signed rest) own progress (signed placed) wrong fault reads misfits)
