-- What is read from the end of an entry on are the entries behind it.
use Rattle.std.proofs.Common.{◌≡◌, ◌≤◌, inl, inr, ℕ, zero, suc, ◌+◌, ◌-◌, Bool, true, false, List, [], ◌∷◌, ◌++◌, length, map, drop, Option, Some, None, ap, sym, subst, refl, ◌∙◌, arith}
use Rattle.std.specs.Option.{option_map}
use Rattle.std.proofs.lemmas.List.{drop_at}
use Rattle.cdc_base.specs.declared.place.Place.{Place}
use Rattle.cdc_event.specs.declared.fault.FileFault.{FileFault}
use Rattle.cdc_event.specs.File.{PlacedEvent, AreEvents, AreFileEvents, AreEventsFrom, FilesHaveOneReading, RestIsRead}
use Rattle.cdc_model.specs.declared.entry.EntryKind.{EntryKind}
use Rattle.cdc_model.specs.declared.fault.GroupFault.{GroupFault}
use Rattle.cdc_model.specs.declared.fault.NodeFault.{NodeFault}
use Rattle.cdc_model.specs.Records.{LogEntry}
use Rattle.cdc_model.specs.Sign.{Sign, signed, BeatTime, NumberEvent, PrepareEvent, CommitText, XaCommitText, XaRollbackText}
use Rattle.cdc_model.specs.Group.{Progress, Out, Wait, Xa, End, Local}
use Rattle.cdc_model.specs.Misfit.{misfit}
use Rattle.cdc_model.specs.Advance.{advance, made, entry_at, entry_given}
use Rattle.cdc_model.specs.Entries.{AreEntriesOfEvents, AreFileEntries, AreEntriesFrom}
use Rattle.cdc_model.specs.ReadFrom.{AreFileEntriesFrom, AreEntriesOn, StartReadsAll, RestOfLogIsRead, OneRest}
use Rattle.cdc_model.proofs.GroupMachine.{Ending, Reached, Misplaced, judged, outcome}
use Rattle.cdc_model.proofs.GroupOutcome.{fault_of, entries_of_run}
use Rattle.cdc_model.proofs.LogReading.{listed, closed, run_of_entries, same_entries, one_list}

-- ---- an event that ends an entry leads out

pub ends_out : (progress : Progress) (seconds : ℕ) (sign : Sign) (kind : EntryKind) → made progress seconds sign ≡ Some kind → advance progress sign ≡ Out
ends_out Out seconds (BeatTime timestamp) kind h = refl
ends_out Out seconds (XaRollbackText xid) kind h = refl
ends_out Out seconds _ kind h = absurd (let e = h in cc)
ends_out (Wait timestamp) seconds (XaCommitText xid) kind h = refl
ends_out (Wait timestamp) seconds _ kind h = absurd (let e = h in cc)
ends_out (Xa time xid content) seconds sign kind h = absurd (let e = h in cc)
ends_out (End time xid content) seconds (PrepareEvent one_phase other) kind h = refl
ends_out (End time xid content) seconds _ kind h = absurd (let e = h in cc)
ends_out (Local rows) seconds NumberEvent kind h = refl
ends_out (Local rows) seconds CommitText kind h = refl
ends_out (Local rows) seconds _ kind h = absurd (let e = h in cc)

-- ---- the event that ended an entry

-- an entry's last event among those of its file, and the run behind it
pub record EndedBy (file : ℕ) (events : List PlacedEvent) (entry : LogEntry) (behind : List LogEntry) (end : Ending) : Type 0 where
  pub front : List PlacedEvent
  pub last : PlacedEvent
  pub rest : List PlacedEvent
  pub in_order : events ≡ front ++ last ∷ rest
  pub place : entry.end ≡ record { file = file; at = last.end }
  pub setting : entry.checksum ≡ last.checksum
  pub run : outcome file Out (map signed rest) ≡ (behind, end)

pub ended_later : (file : ℕ) (event : PlacedEvent) (events : List PlacedEvent) (entry : LogEntry) (behind : List LogEntry) (end : Ending)
    → EndedBy file events entry behind end → EndedBy file (event ∷ events) entry behind end
ended_later file event events entry behind end found = record {
  front = event ∷ found.front;
  last = found.last;
  rest = found.rest;
  in_order = ap (λ (list : List PlacedEvent). event ∷ list) found.in_order;
  place = found.place;
  setting = found.setting;
  run = found.run;
}

pub first_of_list : {X : Type 0} (x y : X) (xs ys : List X) → x ∷ xs ≡ y ∷ ys → (x ≡ y) × (xs ≡ ys)
first_of_list x y xs ys e = (cc, cc)

pub pair_is : (o : List LogEntry × Ending) (list : List LogEntry) → o.0 ≡ list → o ≡ (list, o.1)
pair_is (entries, end) list is = ap (λ (l : List LogEntry). (l, end)) is

-- the event itself ends the entry
pub ended_here : (file : ℕ) (progress : Progress) (event : PlacedEvent) (events : List PlacedEvent) (entry : LogEntry) (behind : List LogEntry) (kind : Option EntryKind)
    → made progress (signed event).seconds (signed event).sign ≡ kind → option_map (entry_at file (signed event)) kind ≡ Some entry
    → (outcome file (advance progress (signed event).sign) (map signed events)).0 ≡ behind
    → EndedBy file (event ∷ events) entry behind (outcome file (advance progress (signed event).sign) (map signed events)).1
ended_here file progress event events entry behind None is gives later = absurd (cc)
ended_here file progress event events entry behind (Some kind) is gives later =
    let same : entry_at file (signed event) kind ≡ entry = cc in
    let out : advance progress (signed event).sign ≡ Out = ends_out progress (signed event).seconds (signed event).sign kind is in
    record {
      front = [];
      last = event;
      rest = events;
      in_order = refl;
      place = ap (λ (e : LogEntry). e.end) (sym same);
      setting = ap (λ (e : LogEntry). e.checksum) (sym same);
      run = ap (λ (p : Progress). outcome file p (map signed events)) (sym out)
          ∙ pair_is (outcome file (advance progress (signed event).sign) (map signed events)) behind later;
    }

pub ended_by : (file : ℕ) (progress : Progress) (events : List PlacedEvent) (before : List LogEntry) (entry : LogEntry) (behind : List LogEntry)
    → (outcome file progress (map signed events)).0 ≡ before ++ entry ∷ behind
    → EndedBy file events entry behind (outcome file progress (map signed events)).1
ended_by file progress [] before entry behind is = absurd (nothing_in before is)
  where
    nothing_in : (before : List LogEntry) → [] ≡ before ++ entry ∷ behind → ⊥
    nothing_in [] e = cc
    nothing_in (first ∷ before) e = cc
ended_by file progress (event ∷ events) before entry behind is =
    by (misfit progress (signed event).sign) (entry_given file progress (signed event)) refl refl is
    (ended_by file (advance progress (signed event).sign) events)
  where
    next : List LogEntry × Ending
    next = outcome file (advance progress (signed event).sign) (map signed events)

    nothing_in : (before : List LogEntry) → [] ≡ before ++ entry ∷ behind → ⊥
    nothing_in [] e = cc
    nothing_in (first ∷ before) e = cc

    -- the entry that the event ends is the one, or stands before it
    at_entry : (given : LogEntry) (before : List LogEntry) → entry_given file progress (signed event) ≡ Some given
        → given ∷ next.0 ≡ before ++ entry ∷ behind
        → ((before : List LogEntry) (entry : LogEntry) (behind : List LogEntry) → next.0 ≡ before ++ entry ∷ behind → EndedBy file events entry behind next.1)
        → EndedBy file (event ∷ events) entry behind next.1
    at_entry given [] gives e later =
        let parts = first_of_list given entry next.0 behind e in
        ended_here file progress event events entry behind (made progress (signed event).seconds (signed event).sign) refl
        (gives ∙ ap (λ (x : LogEntry). Some x) parts.0) parts.1
    at_entry given (first ∷ before) gives e later =
        let parts = first_of_list given first next.0 (before ++ entry ∷ behind) e in
        ended_later file event events entry behind next.1 (later before entry behind parts.1)

    by : (fault : Option GroupFault) (given : Option LogEntry) → misfit progress (signed event).sign ≡ fault
        → entry_given file progress (signed event) ≡ given
        → (judged (signed event) fault given next).0 ≡ before ++ entry ∷ behind
        → ((before : List LogEntry) (entry : LogEntry) (behind : List LogEntry) → next.0 ≡ before ++ entry ∷ behind → EndedBy file events entry behind next.1)
        → EndedBy file (event ∷ events) entry behind (judged (signed event) fault given next).1
    by (Some fault) given fits gives e later = absurd (nothing_in before e)
    by None None fits gives e later = ended_later file event events entry behind next.1 (later before entry behind e)
    by None (Some given) fits gives e later = at_entry given before gives e later

-- ---- one file

pub closed_is : (file : ℕ) (ended : Option (ℕ × FileFault)) (o : List LogEntry × Ending) → closed file ended o ≡ listed o.0 (fault_of file ended o.1)
closed_is file ended (entries, Reached progress) = refl
closed_is file ended (entries, Misplaced event fault) = refl

-- events stand at their places or behind
pub stands_behind : (first : Bool) (at checksum : ℕ) (bytes : List ℕ) (front : List PlacedEvent) (last : PlacedEvent) (rest : List PlacedEvent) (fault : Option (ℕ × FileFault))
    → AreEvents first at checksum bytes (front ++ last ∷ rest) fault → at ≤ last.end
stands_behind first at checksum bytes [] last rest fault (piece, behind, is, whole, place, end, setting, more) = omega (arith, end)
stands_behind first at checksum bytes (event ∷ front) last rest fault (piece, behind, is, whole, place, end, setting, more) =
    let later : event.end ≤ last.end = stands_behind false event.end event.checksum behind front last rest fault more in
    omega (arith, end, later)

pub behind_magic : (bytes : List ℕ) (front : List PlacedEvent) (last : PlacedEvent) (rest : List PlacedEvent) (fault : Option (ℕ × FileFault))
    → AreFileEvents bytes (front ++ last ∷ rest) fault → 4 ≤ last.end
behind_magic bytes front last rest fault (inl (short, none, no_fault)) = absurd (some_in front none)
  where
    some_in : (front : List PlacedEvent) → front ++ last ∷ rest ≡ [] → ⊥
    some_in [] e = cc
    some_in (event ∷ front) e = cc
behind_magic bytes front last rest fault (inr (inl (long, other, none, faulty))) = absurd (some_in front none)
  where
    some_in : (front : List PlacedEvent) → front ++ last ∷ rest ≡ [] → ⊥
    some_in [] e = cc
    some_in (event ∷ front) e = cc
behind_magic bytes front last rest fault (inr (inr (more, is, are))) = stands_behind true 4 0 more front last rest fault are

-- a place behind byte 0
pub from_place : (at checksum : ℕ) (bytes : List ℕ) (events : List PlacedEvent) (fault : Option (ℕ × FileFault)) → 1 ≤ at
    → AreEvents false at checksum bytes events fault → AreEventsFrom at checksum bytes events fault
from_place zero checksum bytes events fault h are = absurd (omega (arith, h))
from_place (suc at) checksum bytes events fault h are = are

-- an entry of a file, and what is read behind it
pub record RestOfFile (file : ℕ) (bytes : List ℕ) (entry : LogEntry) (behind : List LogEntry) (fault : Option (Place × NodeFault)) : Type 0 where
  pub here : entry.end.file ≡ file
  pub read : AreFileEntriesFrom file entry.end.at entry.checksum bytes behind fault

module _ (rest_is_read : RestIsRead) where
  rest_of_file : (file : ℕ) (bytes : List ℕ) (before : List LogEntry) (entry : LogEntry) (behind : List LogEntry) (fault : Option (Place × NodeFault))
      → AreFileEntries file bytes (before ++ entry ∷ behind) fault → RestOfFile file bytes entry behind fault
  rest_of_file file bytes before entry behind fault (events, ended, read, are) =
      at_event (ended_by file Out events before entry behind (sym both.0))
    where
      o : List LogEntry × Ending
      o = outcome file Out (map signed events)

      both : (before ++ entry ∷ behind ≡ o.0) × (fault ≡ fault_of file ended o.1)
      both = same_entries (before ++ entry ∷ behind) o.0 fault (fault_of file ended o.1)
          (run_of_entries file (map signed events) ended (before ++ entry ∷ behind) fault are ∙ closed_is file ended o)

      at_event : EndedBy file events entry behind o.1 → RestOfFile file bytes entry behind fault
      at_event found = from_split (rest_is_read 0 0 bytes found.front found.rest found.last ended whole)
        where
          whole : AreFileEvents bytes (found.front ++ found.last ∷ found.rest) ended
          whole = subst (λ (list : List PlacedEvent). AreFileEvents bytes list ended) found.in_order read

          rest_entries : AreEntriesOfEvents file (map signed found.rest) ended behind fault
          rest_entries =
              subst (λ (f : Option (Place × NodeFault)). AreEntriesOfEvents file (map signed found.rest) ended behind f) (sym both.1)
              (subst (λ (p : List LogEntry × Ending). AreEntriesOfEvents file (map signed found.rest) ended p.0 (fault_of file ended p.1)) found.run
              (entries_of_run file (map signed found.rest) ended))

          from_split : ((front rest : List ℕ) × (bytes ≡ front ++ rest) × (0 + length front ≡ found.last.end)
              × AreEvents false found.last.end found.last.checksum rest found.rest ended) → RestOfFile file bytes entry behind fault
          from_split (front, rest, is, place, events_behind) =
              let size : length front ≡ found.last.end = omega (arith, place) in
              let bytes_behind : drop found.last.end bytes ≡ rest = ap (drop found.last.end) is ∙ drop_at front rest found.last.end size in
              let first : 1 ≤ found.last.end = omega (arith, behind_magic bytes found.front found.last found.rest ended whole) in
              let here : AreFileEntriesFrom file found.last.end found.last.checksum bytes behind fault = (
                found.rest,
                ended,
                subst (λ (list : List ℕ). AreEventsFrom found.last.end found.last.checksum list found.rest ended) (sym bytes_behind)
                    (from_place found.last.end found.last.checksum rest found.rest ended first events_behind),
                rest_entries,
              ) in
              record {
                here = ap (λ (p : Place). p.file) found.place;
                read =
                    subst (λ (p : Place). AreFileEntriesFrom file p.at entry.checksum bytes behind fault) (sym found.place)
                    (subst (λ (c : ℕ). AreFileEntriesFrom file found.last.end c bytes behind fault) (sym found.setting) here);
              }

-- ---- a log

-- an element of a list in two parts is in the first or in the second
pub data Splits (before : List LogEntry) (entry : LogEntry) (behind own later : List LogEntry) : Type 0 where
  in_own : (rest : List LogEntry) → own ≡ before ++ entry ∷ rest → behind ≡ rest ++ later → Splits before entry behind own later
  in_later : (front : List LogEntry) → before ≡ own ++ front → later ≡ front ++ entry ∷ behind → Splits before entry behind own later

pub splits : (before : List LogEntry) (entry : LogEntry) (behind own later : List LogEntry) → before ++ entry ∷ behind ≡ own ++ later → Splits before entry behind own later
splits before entry behind [] later e = in_later before refl (sym e)
splits [] entry behind (first ∷ own) later e =
    let parts = first_of_list entry first behind (own ++ later) e in
    in_own own (ap (λ (x : LogEntry). x ∷ own) (sym parts.0)) parts.1
splits (other ∷ before) entry behind (first ∷ own) later e =
    let parts = first_of_list other first (before ++ entry ∷ behind) (own ++ later) e in
    deeper parts.0 (splits before entry behind own later parts.1)
  where
    deeper : other ≡ first → Splits before entry behind own later → Splits (other ∷ before) entry behind (first ∷ own) later
    deeper same (in_own rest p q) = in_own rest (ap (λ (list : List LogEntry). first ∷ list) p ∙ ap (λ (x : LogEntry). x ∷ (before ++ entry ∷ rest)) (sym same)) q
    deeper same (in_later front p q) = in_later front (ap (λ (list : List LogEntry). other ∷ list) p ∙ ap (λ (x : LogEntry). x ∷ (own ++ front)) same) q

-- an entry of files from a number on, and what is read behind it
record RestOfFiles (file : ℕ) (files : List (List ℕ)) (entry : LogEntry) (behind : List LogEntry) (fault : Option (Place × NodeFault)) : Type 0 where
  least : file ≤ entry.end.file
  read : AreEntriesOn entry.end.file entry.end.at entry.checksum (drop (entry.end.file - file) files) behind fault

pub drop_none : (n : ℕ) (bytes : List ℕ) (files : List (List ℕ)) → n ≡ 0 → drop n (bytes ∷ files) ≡ bytes ∷ files
drop_none n bytes files is = ap (λ (k : ℕ). drop k (bytes ∷ files)) is

pub drop_next : (n m : ℕ) (bytes : List ℕ) (files : List (List ℕ)) → n ≡ suc m → drop n (bytes ∷ files) ≡ drop m files
drop_next n m bytes files is = ap (λ (k : ℕ). drop k (bytes ∷ files)) is

module _ (rest_is_read : RestIsRead) where
  rest_of_files : (file : ℕ) (files : List (List ℕ)) (before : List LogEntry) (entry : LogEntry) (behind : List LogEntry) (fault : Option (Place × NodeFault))
      → AreEntriesFrom file files (before ++ entry ∷ behind) fault → RestOfFiles file files entry behind fault
  rest_of_files file [] before entry behind fault (none, no_fault) = absurd (some_in before none)
    where
      some_in : (before : List LogEntry) → before ++ entry ∷ behind ≡ [] → ⊥
      some_in [] e = cc
      some_in (first ∷ before) e = cc
  rest_of_files file (bytes ∷ files) before entry behind fault (inl (not, are)) =
      in_first (rest_of_file rest_is_read file bytes before entry behind fault are)
    where
      in_first : RestOfFile file bytes entry behind fault → RestOfFiles file (bytes ∷ files) entry behind fault
      in_first rest =
          let file_is : entry.end.file ≡ file = rest.here in
          let none : entry.end.file - file ≡ 0 = omega (arith, file_is) in
          record {
            least = omega (arith, file_is);
            read =
                subst (λ (list : List (List ℕ)). AreEntriesOn entry.end.file entry.end.at entry.checksum list behind fault)
                (sym (drop_none (entry.end.file - file) bytes files none))
                (inl (not, subst (λ (n : ℕ). AreFileEntriesFrom n entry.end.at entry.checksum bytes behind fault) (sym file_is) rest.read));
          }
  rest_of_files file (bytes ∷ files) before entry behind fault (inr (own, later, is, are, from)) =
      by (splits before entry behind own later is) (rest_of_files (file + 1) files)
    where
      in_first : (rest : List LogEntry) → behind ≡ rest ++ later → RestOfFile file bytes entry rest None → RestOfFiles file (bytes ∷ files) entry behind fault
      in_first rest q found =
          let file_is : entry.end.file ≡ file = found.here in
          let none : entry.end.file - file ≡ 0 = omega (arith, file_is) in
          record {
            least = omega (arith, file_is);
            read =
                subst (λ (list : List (List ℕ)). AreEntriesOn entry.end.file entry.end.at entry.checksum list behind fault)
                (sym (drop_none (entry.end.file - file) bytes files none))
                (inr (
                  rest,
                  later,
                  q,
                  subst (λ (n : ℕ). AreFileEntriesFrom n entry.end.at entry.checksum bytes rest None) (sym file_is) found.read,
                  subst (λ (n : ℕ). AreEntriesFrom (n + 1) files later fault) (sym file_is) from,
                ));
          }

      in_others : RestOfFiles (file + 1) files entry behind fault → RestOfFiles file (bytes ∷ files) entry behind fault
      in_others found =
          let least : file + 1 ≤ entry.end.file = found.least in
          let more : entry.end.file - file ≡ suc (entry.end.file - (file + 1)) = omega (arith, least) in
          record {
            least = omega (arith, least);
            read =
                subst (λ (list : List (List ℕ)). AreEntriesOn entry.end.file entry.end.at entry.checksum list behind fault)
                (sym (drop_next (entry.end.file - file) (entry.end.file - (file + 1)) bytes files more)) found.read;
          }

      by : Splits before entry behind own later
          → ((front : List LogEntry) (e : LogEntry) (b : List LogEntry) (f : Option (Place × NodeFault)) → AreEntriesFrom (file + 1) files (front ++ e ∷ b) f
          → RestOfFiles (file + 1) files e b f)
          → RestOfFiles file (bytes ∷ files) entry behind fault
      by (in_own rest p q) deeper =
          in_first rest q
          (rest_of_file rest_is_read file bytes before entry rest None (subst (λ (list : List LogEntry). AreFileEntries file bytes list None) p are))
      by (in_later front p q) deeper =
          in_others (deeper front entry behind fault (subst (λ (list : List LogEntry). AreEntriesFrom (file + 1) files list fault) q from))

  pub rest_of_log_is_read : RestOfLogIsRead
  rest_of_log_is_read files before behind entry fault are = (rest_of_files 1 files before entry behind fault are).read

-- ---- the start, and one reading

pub start_reads_all : StartReadsAll
start_reads_all checksum [] entries fault = (λ are. are, λ are. are)
start_reads_all checksum (bytes ∷ files) entries fault = (λ are. are, λ are. are)

module _ (one : FilesHaveOneReading) where
  one_rest_of_file : (file at checksum : ℕ) (bytes : List ℕ) (entries others : List LogEntry) (fault other : Option (Place × NodeFault))
      → AreFileEntriesFrom file at checksum bytes entries fault → AreFileEntriesFrom file at checksum bytes others other → (entries ≡ others) × (fault ≡ other)
  one_rest_of_file file at checksum bytes entries others fault other (events, ended, read, first) (events2, ended2, read2, second) =
      let same = one at checksum (drop at bytes) events events2 ended ended2 read read2 in
      same_entries entries others fault other
      (run_of_entries file (map signed events) ended entries fault first
      ∙ ap (λ (list : List PlacedEvent). closed file ended (outcome file Out (map signed list))) same.0
      ∙ ap (λ (e : Option (ℕ × FileFault)). closed file e (outcome file Out (map signed events2))) same.1
      ∙ sym (run_of_entries file (map signed events2) ended2 others other second))

  one_rest_on : (file at checksum : ℕ) (files : List (List ℕ)) (entries others : List LogEntry) (fault other : Option (Place × NodeFault))
      → AreEntriesOn file at checksum files entries fault → AreEntriesOn file at checksum files others other → (entries ≡ others) × (fault ≡ other)
  one_rest_on file at checksum [] entries others fault other first second = (first.0 ∙ sym second.0, first.1 ∙ sym second.1)
  one_rest_on file at checksum (bytes ∷ files) entries others fault other (inl (not, are)) (inl (not2, are2)) =
      one_rest_of_file file at checksum bytes entries others fault other are are2
  one_rest_on file at checksum (bytes ∷ files) entries others fault other (inl (not, are)) (inr (own2, later2, is2, are2, from2)) =
      absurd (not (one_rest_of_file file at checksum bytes entries own2 fault None are are2).1)
  one_rest_on file at checksum (bytes ∷ files) entries others fault other (inr (own, later, is, are, from)) (inl (not2, are2)) =
      absurd (not2 (sym (one_rest_of_file file at checksum bytes own others None other are are2).1))
  one_rest_on file at checksum (bytes ∷ files) entries others fault other (inr (own, later, is, are, from)) (inr (own2, later2, is2, are2, from2)) =
      let same = (one_rest_of_file file at checksum bytes own own2 None None are are2).0 in
      let rest = one_list one (file + 1) files later later2 fault other from from2 in
      (is ∙ ap (λ (list : List LogEntry). list ++ later) same ∙ ap (λ (list : List LogEntry). own2 ++ list) rest.0 ∙ sym is2, rest.1)

  pub one_rest : OneRest
  one_rest place checksum files entries others fault other first second =
      one_rest_on place.file place.at checksum (drop (place.file - 1) files) entries others fault other first second
