-- Entries end within their logs.
use Rattle.std.proofs.Common.{◌≡◌, ◌<◌, ◌≤◌, inl, inr, ℕ, suc, ◌+◌, ◌-◌, Bool, true, false, List, [], ◌∷◌, ◌++◌, length, length-append, map, get_or, Option, None, ap, sym, subst, ◌∙◌, arith}
use Rattle.cdc_base.specs.declared.place.Place.{Place}
use Rattle.cdc_outside.specs.Source.{file_of}
use Rattle.cdc_event.specs.declared.fault.FileFault.{FileFault}
use Rattle.cdc_event.specs.Event.{magic}
use Rattle.cdc_event.specs.File.{PlacedEvent, AreEvents, AreFileEvents}
use Rattle.cdc_model.specs.declared.fault.NodeFault.{NodeFault}
use Rattle.cdc_model.specs.Records.{LogEntry}
use Rattle.cdc_model.specs.Sign.{signed}
use Rattle.cdc_model.specs.Group.{Out}
use Rattle.cdc_model.specs.Entries.{AreFileEntries, AreEntriesFrom, AreLogEntries}
use Rattle.cdc_model.proofs.GroupMachine.{Ending, outcome}
use Rattle.cdc_model.proofs.GroupOutcome.{fault_of}
use Rattle.cdc_model.proofs.LogReading.{run_of_entries, same_entries}
use Rattle.cdc_model.proofs.RestOfLog.{EndedBy, ended_by, closed_is, Splits, in_own, in_later, splits}

-- ---- events

-- an event ends within the bytes of all
event_within : (first : Bool) (at checksum : ℕ) (bytes : List ℕ) (front : List PlacedEvent) (last : PlacedEvent) (rest : List PlacedEvent) (fault : Option (ℕ × FileFault))
    → AreEvents first at checksum bytes (front ++ last ∷ rest) fault → last.end ≤ at + length bytes
event_within first at checksum bytes [] last rest fault (piece, behind, is, whole, place, end, setting, more) =
    omega (arith, end, ap length is, length-append piece behind)
event_within first at checksum bytes (event ∷ front) last rest fault (piece, behind, is, whole, place, end, setting, more) =
    let later : last.end ≤ event.end + length behind = event_within false event.end event.checksum behind front last rest fault more in
    omega (arith, later, end, ap length is, length-append piece behind)

-- and within its file
event_in_file : (bytes : List ℕ) (front : List PlacedEvent) (last : PlacedEvent) (rest : List PlacedEvent) (fault : Option (ℕ × FileFault))
    → AreFileEvents bytes (front ++ last ∷ rest) fault → last.end ≤ length bytes
event_in_file bytes front last rest fault (inl (short, none, no_fault)) = absurd (some_in front none)
  where
    some_in : (front : List PlacedEvent) → front ++ last ∷ rest ≡ [] → ⊥
    some_in [] e = cc
    some_in (event ∷ front) e = cc
event_in_file bytes front last rest fault (inr (inl (long, other, none, faulty))) = absurd (some_in front none)
  where
    some_in : (front : List PlacedEvent) → front ++ last ∷ rest ≡ [] → ⊥
    some_in [] e = cc
    some_in (event ∷ front) e = cc
event_in_file bytes front last rest fault (inr (inr (more, is, are))) =
    let later : last.end ≤ 4 + length more = event_within true 4 0 more front last rest fault are in
    omega (arith, later, ap length is, length-append magic more)

-- ---- entries

-- an entry ends in this file, within its bytes
record EndsInFile (file : ℕ) (bytes : List ℕ) (entry : LogEntry) : Type 0 where
  here : entry.end.file ≡ file
  within : entry.end.at ≤ length bytes

-- an entry ends in the file that it was read from
ends_in_file : (file : ℕ) (bytes : List ℕ) (before : List LogEntry) (entry : LogEntry) (behind : List LogEntry) (fault : Option (Place × NodeFault))
    → AreFileEntries file bytes (before ++ entry ∷ behind) fault → EndsInFile file bytes entry
ends_in_file file bytes before entry behind fault (events, ended, read, are) =
    at_event (ended_by file Out events before entry behind (sym both.0))
  where
    o : List LogEntry × Ending
    o = outcome file Out (map signed events)

    both : (before ++ entry ∷ behind ≡ o.0) × (fault ≡ fault_of file ended o.1)
    both = same_entries (before ++ entry ∷ behind) o.0 fault (fault_of file ended o.1)
        (run_of_entries file (map signed events) ended (before ++ entry ∷ behind) fault are ∙ closed_is file ended o)

    at_event : EndedBy file events entry behind o.1 → EndsInFile file bytes entry
    at_event found =
        let whole : AreFileEvents bytes (found.front ++ found.last ∷ found.rest) ended =
        subst (λ (list : List PlacedEvent). AreFileEvents bytes list ended) found.in_order read in
        let last : found.last.end ≤ length bytes = event_in_file bytes found.front found.last found.rest ended whole in
        record {
          here = ap (λ (p : Place). p.file) found.place;
          within = subst (λ (p : Place). p.at ≤ length bytes) (sym found.place) last;
        }

-- an entry ends in one of these files, of which the first has this number
record EndsInFiles (file : ℕ) (files : List (List ℕ)) (entry : LogEntry) : Type 0 where
  index : ℕ
  number : entry.end.file ≡ file + index
  there : index < length files
  within : entry.end.at ≤ length (get_or files index [])

-- in the first of them
in_first_file : (file : ℕ) (bytes : List ℕ) (files : List (List ℕ)) (entry : LogEntry) → EndsInFile file bytes entry → EndsInFiles file (bytes ∷ files) entry
in_first_file file bytes files entry ends = record { index = 0; number = omega (arith, ends.here); there = omega arith; within = ends.within }

-- in one behind the first
in_later_file : (file : ℕ) (bytes : List ℕ) (files : List (List ℕ)) (entry : LogEntry) → EndsInFiles (file + 1) files entry → EndsInFiles file (bytes ∷ files) entry
in_later_file file bytes files entry ends =
    record { index = suc ends.index; number = omega (arith, ends.number); there = omega (arith, ends.there); within = ends.within }

-- an entry ends in one of the files that it was read from
ends_in_files : (file : ℕ) (files : List (List ℕ)) (before : List LogEntry) (entry : LogEntry) (behind : List LogEntry) (fault : Option (Place × NodeFault))
    → AreEntriesFrom file files (before ++ entry ∷ behind) fault → EndsInFiles file files entry
ends_in_files file [] before entry behind fault (none, no_fault) = absurd (some_in before none)
  where
    some_in : (before : List LogEntry) → before ++ entry ∷ behind ≡ [] → ⊥
    some_in [] e = cc
    some_in (first ∷ before) e = cc
ends_in_files file (bytes ∷ files) before entry behind fault (inl (not, are)) =
    in_first_file file bytes files entry (ends_in_file file bytes before entry behind fault are)
ends_in_files file (bytes ∷ files) before entry behind fault (inr (own, later, is, are, from)) =
    by (splits before entry behind own later is) (ends_in_files (file + 1) files)
  where
    by : Splits before entry behind own later
        → ((front : List LogEntry) (e : LogEntry) (b : List LogEntry) (f : Option (Place × NodeFault)) → AreEntriesFrom (file + 1) files (front ++ e ∷ b) f
        → EndsInFiles (file + 1) files e)
        → EndsInFiles file (bytes ∷ files) entry
    by (in_own rest p q) deeper =
        in_first_file file bytes files entry
        (ends_in_file file bytes before entry rest None (subst (λ (list : List LogEntry). AreFileEntries file bytes list None) p are))
    by (in_later front p q) deeper =
        in_later_file file bytes files entry
        (deeper front entry behind fault (subst (λ (list : List LogEntry). AreEntriesFrom (file + 1) files list fault) q from))

-- a place lies in a log
pub record LiesIn (files : List (List ℕ)) (place : Place) : Type 0 where
  pub file : place.file ≤ length files
  pub at : place.at ≤ length (file_of files place.file)

-- an entry's end lies in its log
pub entry_lies_in : (files : List (List ℕ)) (before : List LogEntry) (entry : LogEntry) (behind : List LogEntry) (fault : Option (Place × NodeFault))
    → AreLogEntries files (before ++ entry ∷ behind) fault → LiesIn files entry.end
entry_lies_in files before entry behind fault are =
    let ends = ends_in_files 1 files before entry behind fault are in
    let index_is : ends.index ≡ entry.end.file - 1 = omega (arith, ends.number) in
    record {
      file = omega (arith, ends.number, ends.there);
      at = subst (λ (n : ℕ). entry.end.at ≤ length (get_or files n [])) index_is ends.within;
    }
