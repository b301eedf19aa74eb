-- The entries of a file and of a log are one, and a log that goes on keeps them, by the laws of a file's events.
use Rattle.std.specs.Prelude.{slice_index}
use Rattle.std.specs.List.{AllByRecursion}
use Rattle.std.proofs.Common.{◌≡◌, ◌≢◌, ◌<◌, inl, inr, ℕ, ◌+◌, List, [], ◌∷◌, ◌++◌, append_assoc, append-nil, map, Option, Some, None, ap, sym, subst, refl, ◌∙◌}
use Rattle.std.proofs.lemmas.List.{map-append}
use Rattle.cdc_base.specs.declared.place.Place.{Place}
use Rattle.cdc_event.specs.declared.fault.FileFault.{FileFault}
use Rattle.cdc_event.specs.File.{PlacedEvent, EachIsRead, FilesHaveOneReading, GrownFileContinues}
use Rattle.cdc_model.specs.declared.fault.NodeFault.{NodeFault}
use Rattle.cdc_model.specs.declared.fault.NodeFault.TheVariants.{Group}
use Rattle.cdc_model.specs.Records.{LogEntry}
use Rattle.cdc_model.specs.Log.{IsLogPrefix}
use Rattle.cdc_model.specs.Sign.{SignedEvent, signed}
use Rattle.cdc_model.specs.Group.{Out}
use Rattle.cdc_model.specs.Entries.{file_fault, AreEntriesOfEvents, AreFileEntries, AreEntriesFrom, EachLogHasEntries, OneEntryList, LengthensLog, ContinuedLogKeepsEntries}
use Rattle.cdc_model.proofs.GroupMachine.{Ending, Reached, Misplaced, outcome}
use Rattle.cdc_model.proofs.GroupRuns.{joined, outcome_append}
use Rattle.cdc_model.proofs.GroupReading.{reads_to_run, run_ceases}
use Rattle.cdc_model.proofs.GroupOutcome.{events_have_entries}

-- ---- the entries of events are what a run gives

-- entries, and a fault or none
abbrev pub Listed : Type 0
Listed = List LogEntry × Option (Place × NodeFault)

abbrev pub listed : List LogEntry → Option (Place × NodeFault) → Listed
listed entries fault = (entries, fault)

-- what a run comes to, as entries and a fault
abbrev pub closed : ℕ → Option (ℕ × FileFault) → List LogEntry × Ending → Listed
closed file ended (entries, Reached progress) = (entries, file_fault file ended)
closed file ended (entries, Misplaced event fault) = (entries, Some (record { file = file; at = event.at }, Group fault))

pub run_of_entries : (file : ℕ) (events : List SignedEvent) (ended : Option (ℕ × FileFault)) (entries : List LogEntry) (fault : Option (Place × NodeFault))
    → AreEntriesOfEvents file events ended entries fault → listed entries fault ≡ closed file ended (outcome file Out events)
run_of_entries file events ended entries fault (inl (progress, reads, is)) =
    ap (listed entries) is
    ∙ ap (closed file ended) (sym (reads_to_run file events entries progress reads))
run_of_entries file events ended entries fault (inr (misplaced, wrong, ceases, is)) =
    ap (listed entries) is
    ∙ ap (closed file ended) (sym (ap (outcome file Out) ceases.events_in_order
    ∙ run_ceases file ceases.front ceases.behind entries ceases.progress misplaced wrong ceases.reads ceases.kind))

-- ---- one file

pub same_entries : (entries others : List LogEntry) (fault other : Option (Place × NodeFault)) → listed entries fault ≡ listed others other → (entries ≡ others) × (fault ≡ other)
same_entries entries others fault other same = (ap (λ (p : Listed). p.0) same, ap (λ (p : Listed). p.1) same)

module _ (one : FilesHaveOneReading) where
  one_file : (file : ℕ) (bytes : List ℕ) (entries others : List LogEntry) (fault other : Option (Place × NodeFault))
      → AreFileEntries file bytes entries fault → AreFileEntries file bytes others other → (entries ≡ others) × (fault ≡ other)
  one_file file bytes entries others fault other (events, ended, read, first) (events2, ended2, read2, second) =
      let same = one 0 0 bytes events events2 ended ended2 read read2 in
      same_entries entries others fault other
      (run_of_entries file (map signed events) ended entries fault first
      ∙ ap (λ (list : List PlacedEvent). closed file ended (outcome file Out (map signed list))) same.0
      ∙ ap (λ (e : Option (ℕ × FileFault)). closed file e (outcome file Out (map signed events2))) same.1
      ∙ sym (run_of_entries file (map signed events2) ended2 others other second))

-- no fault of the bytes is no fault of the file
pub no_file_fault : (file : ℕ) (ended : Option (ℕ × FileFault)) → file_fault file ended ≢ None → ended ≢ None
no_file_fault file ended not none = not (ap (file_fault file) none)

-- a run, and the same over events behind it
pub lengthened : (file : ℕ) (o : List LogEntry × Ending) (new : List SignedEvent) (ended later : Option (ℕ × FileFault)) → (ended ≢ None → (new ≡ []) × (later ≡ ended))
    → LengthensLog (closed file ended o).0 (closed file later (joined file o new)).0 (closed file ended o).1 (closed file later (joined file o new)).1
lengthened file (entries, Misplaced event fault) new ended later stays = record { new = []; kept = sym (append-nil entries); stays = λ _. (refl, refl) }
lengthened file (entries, Reached progress) new ended later stays = at_end (outcome file progress new) refl
  where
    at_end : (o : List LogEntry × Ending) → outcome file progress new ≡ o
        → LengthensLog entries (closed file later (entries ++ o.0, o.1)).0 (file_fault file ended) (closed file later (entries ++ o.0, o.1)).1
    at_end (more, Reached last) is = record {
      new = more;
      kept = refl;
      stays = λ not.
          let kept = stays (no_file_fault file ended not) in
          let same : (more, Reached last) ≡ ([], Reached progress) = sym is ∙ ap (outcome file progress) kept.0 in
          (ap (λ (p : List LogEntry × Ending). p.0) same, ap (file_fault file) kept.1);
    }
    at_end (more, Misplaced event fault) is = record {
      new = more;
      kept = refl;
      stays = λ not.
          let kept = stays (no_file_fault file ended not) in
          let same : (more, Misplaced event fault) ≡ ([], Reached progress) = sym is ∙ ap (outcome file progress) kept.0 in
          let ends : Misplaced event fault ≡ Reached progress = ap (λ (p : List LogEntry × Ending). p.1) same in
          absurd (cc);
    }

-- as far as the lists and faults are these
pub lengthens_as : (entries longer others further : List LogEntry) (fault later other last : Option (Place × NodeFault))
    → listed entries fault ≡ listed others other → listed longer later ≡ listed further last → LengthensLog others further other last → LengthensLog entries longer fault later
lengthens_as entries longer others further fault later other last first second h =
    let a = same_entries entries others fault other first in
    let b = same_entries longer further later last second in
    subst (λ (list : List LogEntry). LengthensLog list longer fault later) (sym a.0)
    (subst (λ (list : List LogEntry). LengthensLog others list fault later) (sym b.0)
    (subst (λ (f : Option (Place × NodeFault)). LengthensLog others further f later) (sym a.1)
    (subst (λ (f : Option (Place × NodeFault)). LengthensLog others further other f) (sym b.1) h)))

module _ (grown : GrownFileContinues) where
  file_grows : (file : ℕ) (bytes more : List ℕ) (entries longer : List LogEntry) (fault later : Option (Place × NodeFault))
      → AreFileEntries file bytes entries fault → AreFileEntries file (bytes ++ more) longer later → LengthensLog entries longer fault later
  file_grows file bytes more entries longer fault later (events, ended, read, first) (events2, ended2, read2, second) =
      let kept = grown 0 0 bytes more events events2 ended ended2 read read2 in
      let o = outcome file Out (map signed events) in
      let now : outcome file Out (map signed events2) ≡ joined file o (map signed kept.new) =
      ap (λ (list : List PlacedEvent). outcome file Out (map signed list)) kept.goes_on
      ∙ ap (outcome file Out) (map-append signed events kept.new)
      ∙ outcome_append file Out (map signed events) (map signed kept.new) in
      lengthens_as entries longer (closed file ended o).0 (closed file ended2 (joined file o (map signed kept.new))).0
      fault later (closed file ended o).1 (closed file ended2 (joined file o (map signed kept.new))).1
      (run_of_entries file (map signed events) ended entries fault first)
      (run_of_entries file (map signed events2) ended2 longer later second ∙ ap (closed file ended2) now)
      (lengthened file o (map signed kept.new) ended ended2
      (λ not. (ap (map signed) (kept.stays not).0, (kept.stays not).1)))

-- ---- a log

-- the entries of the first file: its own, and those of the rest where it has no fault
pub data FirstFile (file : ℕ) (bytes : List ℕ) (files : List (List ℕ)) (entries : List LogEntry) (fault : Option (Place × NodeFault)) : Type 0 where
  ends_here : fault ≢ None → AreFileEntries file bytes entries fault → FirstFile file bytes files entries fault
  goes_on : (own later : List LogEntry) → entries ≡ own ++ later → AreFileEntries file bytes own None → AreEntriesFrom (file + 1) files later fault
      → FirstFile file bytes files entries fault

pub first_file : (file : ℕ) (bytes : List ℕ) (files : List (List ℕ)) (entries : List LogEntry) (fault : Option (Place × NodeFault))
    → AreEntriesFrom file (bytes ∷ files) entries fault → FirstFile file bytes files entries fault
first_file file bytes files entries fault (inl (not, are)) = ends_here not are
first_file file bytes files entries fault (inr (own, later, is, are, rest)) = goes_on own later is are rest

-- the first files being one, the rest decides
pub lengthens_behind : (own other later further entries longer : List LogEntry) (fault last : Option (Place × NodeFault))
    → own ≡ other → entries ≡ own ++ later → longer ≡ other ++ further → LengthensLog later further fault last → LengthensLog entries longer fault last
lengthens_behind own other later further entries longer fault last same first second h = record {
  new = h.new;
  kept = second ∙ ap (λ (list : List LogEntry). other ++ list) h.kept ∙ sym (append_assoc other later h.new)
      ∙ ap (λ (list : List LogEntry). (list ++ later) ++ h.new) (sym same) ∙ ap (λ (list : List LogEntry). list ++ h.new) (sym first);
  stays = h.stays;
}

-- nothing is longer than itself
pub lengthens_itself : (entries others : List LogEntry) (fault other : Option (Place × NodeFault)) → entries ≡ others → fault ≡ other → LengthensLog entries others fault other
lengthens_itself entries others fault other same is = record { new = []; kept = sym same ∙ sym (append-nil entries); stays = λ _. (refl, sym is) }

-- a file without a fault, and what comes behind it
pub lengthens_nothing : (entries own new further longer : List LogEntry) (fault last : Option (Place × NodeFault))
    → fault ≡ None → entries ≡ own → longer ≡ (own ++ new) ++ further → LengthensLog entries longer fault last
lengthens_nothing entries own new further longer fault last none is all = record {
  new = new ++ further;
  kept = all ∙ append_assoc own new further ∙ ap (λ (list : List LogEntry). list ++ (new ++ further)) (sym is);
  stays = λ not. absurd (not none);
}

module _ (one : FilesHaveOneReading) where
  pub one_list : (file : ℕ) (files : List (List ℕ)) (entries others : List LogEntry) (fault other : Option (Place × NodeFault))
      → AreEntriesFrom file files entries fault → AreEntriesFrom file files others other → (entries ≡ others) × (fault ≡ other)
  one_list file [] entries others fault other first second = (first.0 ∙ sym second.0, first.1 ∙ sym second.1)
  one_list file (bytes ∷ files) entries others fault other first second =
      at_first (first_file file bytes files entries fault first) (first_file file bytes files others other second) (one_list (file + 1) files)
    where
      at_first : FirstFile file bytes files entries fault → FirstFile file bytes files others other
          → ((own more : List LogEntry) (f g : Option (Place × NodeFault)) → AreEntriesFrom (file + 1) files own f → AreEntriesFrom (file + 1) files more g → (own ≡ more) × (f ≡ g))
          → (entries ≡ others) × (fault ≡ other)
      at_first (ends_here not are) (ends_here not2 are2) rest = one_file one file bytes entries others fault other are are2
      at_first (ends_here not are) (goes_on own2 rest2 is2 are2 from2) rest = absurd (not (one_file one file bytes entries own2 fault None are are2).1)
      at_first (goes_on own rest1 is are from) (ends_here not2 are2) rest = absurd (not2 (sym (one_file one file bytes own others None other are are2).1))
      at_first (goes_on own rest1 is are from) (goes_on own2 rest2 is2 are2 from2) rest =
          let same = (one_file one file bytes own own2 None None are are2).0 in
          let later = rest rest1 rest2 fault other from from2 in
          (is ∙ ap (λ (list : List LogEntry). list ++ rest1) same ∙ ap (λ (list : List LogEntry). own2 ++ list) later.0 ∙ sym is2, later.1)

  pub log_has_one_entry_list : OneEntryList
  log_has_one_entry_list files entries others fault other = one_list 1 files entries others fault other

module _ (one : FilesHaveOneReading) (grown : GrownFileContinues) where
  -- the last file of the older log, and the same file with more bytes
  last_grows : (file : ℕ) (bytes more : List ℕ) (files : List (List ℕ)) (entries longer : List LogEntry) (fault later : Option (Place × NodeFault))
      → FirstFile file bytes [] entries fault → FirstFile file (bytes ++ more) files longer later → LengthensLog entries longer fault later
  last_grows file bytes more files entries longer fault later (ends_here not are) (ends_here not2 are2) = file_grows grown file bytes more entries longer fault later are are2
  last_grows file bytes more files entries longer fault later (ends_here not are) (goes_on own rest is are2 from) =
      let h = file_grows grown file bytes more entries own fault None are are2 in
      absurd (not (sym (h.stays not).1))
  last_grows file bytes more files entries longer fault later (goes_on own rest is are from) (ends_here not2 are2) =
      let h = file_grows grown file bytes more own longer None later are are2 in
      lengthens_nothing entries own h.new [] longer fault later from.1
      (is ∙ ap (λ (list : List LogEntry). own ++ list) from.0 ∙ append-nil own) (h.kept ∙ sym (append-nil (own ++ h.new)))
  last_grows file bytes more files entries longer fault later (goes_on own rest is are from) (goes_on own2 rest2 is2 are2 from2) =
      let h = file_grows grown file bytes more own own2 None None are are2 in
      lengthens_nothing entries own h.new rest2 longer fault later from.1
      (is ∙ ap (λ (list : List LogEntry). own ++ list) from.0 ∙ append-nil own) (is2 ∙ ap (λ (list : List LogEntry). list ++ rest2) h.kept)

  -- a file that stands in both logs, and what is behind it
  file_stays : (file : ℕ) (bytes : List ℕ) (files others : List (List ℕ)) (entries longer : List LogEntry) (fault later : Option (Place × NodeFault))
      → FirstFile file bytes files entries fault → FirstFile file bytes others longer later
      → ((own further : List LogEntry) → AreEntriesFrom (file + 1) files own fault → AreEntriesFrom (file + 1) others further later → LengthensLog own further fault later)
      → LengthensLog entries longer fault later
  file_stays file bytes files others entries longer fault later (ends_here not are) (ends_here not2 are2) rest =
      let same = one_file one file bytes entries longer fault later are are2 in lengthens_itself entries longer fault later same.0 same.1
  file_stays file bytes files others entries longer fault later (ends_here not are) (goes_on own2 rest2 is2 are2 from2) rest =
      absurd (not (one_file one file bytes entries own2 fault None are are2).1)
  file_stays file bytes files others entries longer fault later (goes_on own rest1 is are from) (ends_here not2 are2) rest =
      absurd (not2 (sym (one_file one file bytes own longer None later are are2).1))
  file_stays file bytes files others entries longer fault later (goes_on own rest1 is are from) (goes_on own2 rest2 is2 are2 from2) rest =
      lengthens_behind own own2 rest1 rest2 entries longer fault later (one_file one file bytes own own2 None None are are2).0 is is2
      (rest rest1 rest2 from from2)

  entries_grow : (file : ℕ) (files others : List (List ℕ)) (entries longer : List LogEntry) (fault later : Option (Place × NodeFault))
      → IsLogPrefix files others → AreEntriesFrom file files entries fault → AreEntriesFrom file others longer later → LengthensLog entries longer fault later
  entries_grow file [] others entries longer fault later prefix first second = record {
    new = longer;
    kept = ap (λ (list : List LogEntry). list ++ longer) (sym first.0);
    stays = λ not. absurd (not first.1);
  }
  entries_grow file (bytes ∷ []) [] entries longer fault later prefix first second = absurd prefix
  entries_grow file (bytes ∷ []) (other ∷ others) entries longer fault later (more, is) first second =
      last_grows file bytes more others entries longer fault later (first_file file bytes [] entries fault first)
      (first_file file (bytes ++ more) others longer later (subst (λ (list : List ℕ). AreEntriesFrom file (list ∷ others) longer later) is second))
  entries_grow file (bytes ∷ next ∷ files) [] entries longer fault later prefix first second = absurd prefix
  entries_grow file (bytes ∷ next ∷ files) (other ∷ others) entries longer fault later (same, prefix) first second =
      file_stays file bytes (next ∷ files) others entries longer fault later (first_file file bytes (next ∷ files) entries fault first)
      (first_file file bytes others longer later (subst (λ (list : List ℕ). AreEntriesFrom file (list ∷ others) longer later) (sym same) second))
      (λ own further. entries_grow (file + 1) (next ∷ files) others own further fault later prefix)

  pub continued_log_keeps_entries : ContinuedLogKeepsEntries
  continued_log_keeps_entries files others entries longer fault later = entries_grow 1 files others entries longer fault later

-- ---- each log has entries

-- entries of files from this number on
abbrev SomeEntries : ℕ → List (List ℕ) → Type 0
SomeEntries file files = (entries : List LogEntry) × (fault : Option (Place × NodeFault)) × AreEntriesFrom file files entries fault

-- a file's entries, and those of the files behind it where it has no fault
pub with_file : (file : ℕ) (bytes : List ℕ) (files : List (List ℕ)) (entries : List LogEntry) (fault : Option (Place × NodeFault))
    → AreFileEntries file bytes entries fault → SomeEntries (file + 1) files → SomeEntries file (bytes ∷ files)
with_file file bytes files entries (Some fault) found rest = (entries, Some fault, inl ((λ e. cc), found))
with_file file bytes files entries None found (later, fault, read) = (entries ++ later, fault, inr (entries, later, refl, found, read))

module _ (each : EachIsRead) where
  file_has_entries : (file : ℕ) (bytes : List ℕ) → ((i : ℕ) → slice_index bytes i < 256)
      → (entries : List LogEntry) × (fault : Option (Place × NodeFault)) × AreFileEntries file bytes entries fault
  file_has_entries file bytes are =
      let found = each 0 0 bytes are in
      let entries = events_have_entries file (map signed found.0) found.1 in
      (entries.0, entries.1, (found.0, found.1, found.2, entries.2))

  files_have_entries : (file : ℕ) (files : List (List ℕ)) → AllByRecursion (λ (bytes : List ℕ). (i : ℕ) → slice_index bytes i < 256) files → SomeEntries file files
  files_have_entries file [] are = ([], None, (refl, refl))
  files_have_entries file (bytes ∷ files) are =
      let own = file_has_entries file bytes are.0 in
      with_file file bytes files own.0 own.1 own.2 (files_have_entries (file + 1) files are.1)

  pub each_log_has_entries : EachLogHasEntries
  each_log_has_entries files are = files_have_entries 1 files are
