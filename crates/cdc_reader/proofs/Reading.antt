-- A log that is read on: what was taken of it, and what it has behind.
use Rattle.std.proofs.Common.{◌≡◌, ◌≤◌, ◌<◌, ◌⊎◌, inl, inr, ℕ, zero, suc, ◌+◌, ◌-◌, List, [], ◌∷◌, ◌++◌, length, take, drop, get_or, Option, Some, None, ap, sym, subst, refl, ◌∙◌, append_assoc, append-nil, arith}
use Rattle.std.proofs.lemmas.List.{drop_all}
use Rattle.std.proofs.Math.Seq.{take-nil, drop-nil}
use Rattle.cdc_base.specs.declared.place.Place.{Place}
use Rattle.cdc_event.specs.File.{FilesHaveOneReading}
use Rattle.cdc_outside.specs.Source.{file_of}
use Rattle.cdc_model.specs.declared.fault.NodeFault.{NodeFault}
use Rattle.cdc_model.specs.Records.{LogEntry}
use Rattle.cdc_model.specs.ReadFrom.{AreEntriesReadFrom}
use Rattle.cdc_model.specs.Restart.{RestartPoint}
use Rattle.cdc_reader.specs.declared.follower.Follower.{Follower}
use Rattle.cdc_reader.specs.Fed.{AreFedEntries, Follows, EndsFile}
use Rattle.cdc_reader.specs.LogFront.{log_up_to, bytes_between, LeadsTo, IsReadUpTo, IsTakenTo}
use Rattle.cdc_reader.proofs.Finding.{BeginsWithOwn}
use Rattle.cdc_reader.proofs.Pieces.{none_between, more_between, rest_between, all_between, file_there, same_up_to, rest_up_to, no_file, no_bytes}
use Rattle.cdc_reader.proofs.Leading.{nothing_fed, nothing_found, leads_first, leads_on, EndsAs, whole_led, nothing_led, fault_led, front_led}

-- a number is at most another or above it
pub at_most_or_above : (a b : ℕ) → (a ≤ b) ⊎ (b < a)
at_most_or_above zero b = inl (omega arith)
at_most_or_above (suc a) zero = inr (omega arith)
at_most_or_above (suc a) (suc b) = by (at_most_or_above a b)
  where
    by : (a ≤ b) ⊎ (b < a) → (suc a ≤ suc b) ⊎ (suc b < suc a)
    by (inl h) = inl (omega arith)
    by (inr h) = inr (omega arith)

drop_nothing : (start at : ℕ) → bytes_between start at [] ≡ []
drop_nothing start at = ap (drop start) (take-nil at) ∙ drop-nil start

no_fault : (fault : Place × NodeFault) → None ≡ Some fault → ⊥
no_fault fault e = cc

-- ---- begin, and go on

pub read_to_first : (point : RestartPoint) (files : List (List ℕ)) (follower : Follower) → 1 ≤ point.place.file
    → Follows follower point.place.file point.place.at point.checksum [] [] → IsReadUpTo point files follower point.place []
read_to_first point files follower first follows = record {
  before = [];
  own = [];
  start = point.place.at;
  checksum = point.checksum;
  in_order = refl;
  first = first;
  begins = omega arith;
  follows =
      subst (λ (list : List ℕ). Follows follower point.place.file point.place.at point.checksum list [])
      (sym (none_between point.place.at (file_of files point.place.file))) follows;
  leads = leads_first point files;
}

pub read_on : (point : RestartPoint) (files : List (List ℕ)) (old new : Follower) (place : Place) (taken : List LogEntry) (count : ℕ) (piece : List ℕ)
    → ((file start checksum : ℕ) (fed : List ℕ) (own : List LogEntry) → Follows old file start checksum fed own → Follows new file start checksum (fed ++ piece) own)
    → piece ≡ take count (drop place.at (file_of files place.file)) → IsReadUpTo point files old place taken
    → IsReadUpTo point files new record { file = place.file; at = place.at + count } taken
read_on point files old new place taken count piece fed is read = record {
  before = read.before;
  own = read.own;
  start = read.start;
  checksum = read.checksum;
  in_order = read.in_order;
  first = read.first;
  begins = let begins : read.start ≤ place.at = read.begins in omega arith;
  follows =
      subst (λ (list : List ℕ). Follows new place.file read.start read.checksum list read.own)
      (ap (λ (list : List ℕ). bytes_between read.start place.at (file_of files place.file) ++ list) is
      ∙ sym (more_between read.start place.at count (file_of files place.file) read.begins))
      (fed place.file read.start read.checksum (bytes_between read.start place.at (file_of files place.file)) read.own read.follows);
  leads = read.leads;
}

-- what is followed with other entries of the file
pub read_with : (point : RestartPoint) (files : List (List ℕ)) (old new : Follower) (place : Place) (taken more : List LogEntry) (read : IsReadUpTo point files old place taken)
    → Follows new place.file read.start read.checksum (bytes_between read.start place.at (file_of files place.file)) (read.own ++ more)
    → IsReadUpTo point files new place (taken ++ more)
read_with point files old new place taken more read follows = record {
  before = read.before;
  own = read.own ++ more;
  start = read.start;
  checksum = read.checksum;
  in_order = ap (λ (list : List LogEntry). list ++ more) read.in_order ∙ append_assoc read.before read.own more;
  first = read.first;
  begins = read.begins;
  follows = follows;
  leads = read.leads;
}

abbrev pub read_same : (point : RestartPoint) (files : List (List ℕ)) (old new : Follower) (place : Place) (taken : List LogEntry) (read : IsReadUpTo point files old place taken)
    → Follows new place.file read.start read.checksum (bytes_between read.start place.at (file_of files place.file)) read.own
    → IsReadUpTo point files new place taken
read_same point files old new place taken read follows = record {
  before = read.before;
  own = read.own;
  start = read.start;
  checksum = read.checksum;
  in_order = read.in_order;
  first = read.first;
  begins = read.begins;
  follows = follows;
  leads = read.leads;
}

pub read_next_file : FilesHaveOneReading → (point : RestartPoint) (files : List (List ℕ)) (old new : Follower) (place : Place) (taken : List LogEntry)
    → place.file ≤ length files → length (file_of files place.file) ≤ place.at → ((checksum : ℕ) → Follows new (place.file + 1) 0 checksum [] [])
    → IsTakenTo point files old place taken → IsTakenTo point files new record { file = place.file + 1; at = 0 } taken
read_next_file one point files old new place taken there ends follows all =
    let read = all.read in
    let is : drop read.start (file_of files place.file) ≡ bytes_between read.start place.at (file_of files place.file) =
    all_between read.start place.at (file_of files place.file) ends in
    let none : bytes_between 0 0 (file_of files (place.file + 1)) ≡ [] = none_between 0 (file_of files (place.file + 1)) in
    record {
      read = record {
        before = taken;
        own = [];
        start = 0;
        checksum = 0;
        in_order = sym (append-nil taken);
        first = omega arith;
        begins = omega arith;
        follows = subst (λ (list : List ℕ). Follows new (place.file + 1) 0 0 list []) (sym none) (follows 0);
        leads =
            subst (LeadsTo point files (place.file + 1) 0 0) (sym read.in_order)
            (leads_on one point files place.file read.start read.checksum 0 (bytes_between read.start place.at (file_of files place.file)) read.before read.own read.first there read.leads all.all is);
      };
      all = subst (λ (list : List ℕ). AreFedEntries (place.file + 1) 0 0 list [] None) (sym none) (nothing_fed (place.file + 1) 0 0);
    }

-- ---- what the log has

ends_as : (before own taken : List LogEntry) (wrong : Option (Place × NodeFault)) (entries : List LogEntry) (fault : Option (Place × NodeFault))
    → taken ≡ before ++ own → EndsAs (before ++ own) wrong entries fault → EndsAs taken wrong entries fault
ends_as before own taken wrong entries fault is h = (h.0 ∙ sym is, h.1)

-- up to where it was read it has just what was taken
pub taken_up_to : FilesHaveOneReading → (point : RestartPoint) (files : List (List ℕ)) (follower : Follower) (place : Place) (taken : List LogEntry)
    → place.file ≤ length files → IsTakenTo point files follower place taken → (entries : List LogEntry) (fault : Option (Place × NodeFault))
    → AreEntriesReadFrom point.place point.checksum (log_up_to place files) entries fault → EndsAs taken None entries fault
taken_up_to one point files follower place taken there all entries fault are =
    let read = all.read in
    let within : place.file - 1 ≤ length files = omega arith in
    ends_as read.before read.own taken None entries fault read.in_order
    (whole_led one point files (log_up_to place files) place.file read.start read.checksum (take place.at (file_of files place.file))
    (bytes_between read.start place.at (file_of files place.file)) read.before read.own entries fault read.leads (same_up_to place files within)
    (rest_up_to place files within) refl all.all are)

-- at the end of its last file it has no more
pub taken_whole : FilesHaveOneReading → (point : RestartPoint) (files : List (List ℕ)) (follower : Follower) (place : Place) (taken : List LogEntry)
    → place.file ≡ length files → length (file_of files place.file) ≤ place.at → IsTakenTo point files follower place taken
    → (entries : List LogEntry) (fault : Option (Place × NodeFault)) → AreEntriesReadFrom point.place point.checksum files entries fault → EndsAs taken None entries fault
taken_whole one point files follower place taken last ends all entries fault are =
    let read = all.read in
    let first : 1 ≤ place.file = read.first in
    let k : ℕ = place.file - 1 in
    let within : k < length files = omega arith in
    let none : length files ≤ suc k = omega arith in
    let there : drop k files ≡ file_of files place.file ∷ [] =
    file_there k files within ∙ ap (λ (list : List (List ℕ)). get_or files k [] ∷ list) (drop_all (suc k) files none) in
    ends_as read.before read.own taken None entries fault read.in_order
    (whole_led one point files files place.file read.start read.checksum (file_of files place.file) (bytes_between read.start place.at (file_of files place.file))
    read.before read.own entries fault read.leads refl there (all_between read.start place.at (file_of files place.file) ends) all.all are)

-- where its file isn't there it has nothing behind
pub taken_nothing : (point : RestartPoint) (files : List (List ℕ)) (follower : Follower) (place : Place) (taken : List LogEntry)
    → length files < place.file → IsReadUpTo point files follower place taken → (entries : List LogEntry) (fault : Option (Place × NodeFault))
    → AreEntriesReadFrom point.place point.checksum files entries fault → EndsAs taken None entries fault
taken_nothing point files follower place taken beyond read entries fault are =
    let ends : length files ≤ place.file - 1 = omega arith in
    let empty : file_of files place.file ≡ [] = no_bytes (place.file - 1) files ends in
    let none : bytes_between read.start place.at (file_of files place.file) ≡ [] =
    ap (bytes_between read.start place.at) empty ∙ drop_nothing read.start place.at in
    let own : read.own ≡ [] =
    nothing_found place.file read.start read.checksum follower (bytes_between read.start place.at (file_of files place.file)) read.own read.follows none in
    let h = nothing_led point files files place.file read.start read.checksum read.before entries fault read.leads refl (no_file place files ends) are in
    (h.0 ∙ sym (read.in_order ∙ ap (λ (list : List LogEntry). read.before ++ list) own ∙ append-nil read.before), h.1)

-- a fault of its file is the log's
pub taken_to_fault : (point : RestartPoint) (files : List (List ℕ)) (follower : Follower) (place : Place) (taken : List LogEntry) (wrong : Place × NodeFault)
    (read : IsReadUpTo point files follower place taken)
    → EndsFile place.file read.start read.checksum (bytes_between read.start place.at (file_of files place.file)) read.own (Some wrong)
    → (entries : List LogEntry) (fault : Option (Place × NodeFault)) → AreEntriesReadFrom point.place point.checksum files entries fault
    → EndsAs taken (Some wrong) entries fault
taken_to_fault point files follower place taken wrong read ends entries fault are = by (at_most_or_above place.file (length files))
  where
    bytes : List ℕ
    bytes = file_of files place.file

    by : (place.file ≤ length files) ⊎ (length files < place.file) → EndsAs taken (Some wrong) entries fault
    by (inl there) =
        let first : 1 ≤ place.file = read.first in
        let within : place.file - 1 < length files = omega arith in
        ends_as read.before read.own taken (Some wrong) entries fault read.in_order
        (fault_led point files files (drop (suc (place.file - 1)) files) place.file read.start read.checksum bytes (bytes_between read.start place.at bytes) (drop place.at bytes)
        read.before read.own wrong entries fault read.leads refl (file_there (place.file - 1) files within) (rest_between read.start place.at bytes read.begins) ends are)
    by (inr beyond) =
        let last : length files ≤ place.file - 1 = omega arith in
        let none : bytes_between read.start place.at bytes ≡ [] =
        ap (bytes_between read.start place.at) (no_bytes (place.file - 1) files last) ∙ drop_nothing read.start place.at in
        let found = ends [] [] None
        (subst (λ (list : List ℕ). AreFedEntries place.file read.start read.checksum list [] None) (sym (append-nil (bytes_between read.start place.at bytes) ∙ none))
        (nothing_fed place.file read.start read.checksum)) in
        absurd (no_fault wrong found.1)

-- what was taken is a front of what it has
pub taken_in_front : (point : RestartPoint) (files : List (List ℕ)) (follower : Follower) (place : Place) (taken : List LogEntry)
    → IsReadUpTo point files follower place taken → (entries : List LogEntry) (fault : Option (Place × NodeFault))
    → AreEntriesReadFrom point.place point.checksum files entries fault → BeginsWithOwn taken entries
taken_in_front point files follower place taken read entries fault are = by (at_most_or_above place.file (length files))
  where
    bytes : List ℕ
    bytes = file_of files place.file

    by : (place.file ≤ length files) ⊎ (length files < place.file) → BeginsWithOwn taken entries
    by (inl there) =
        let first : 1 ≤ place.file = read.first in
        let within : place.file - 1 < length files = omega arith in
        let found = front_led point files files (drop (suc (place.file - 1)) files) place.file read.start read.checksum follower bytes (bytes_between read.start place.at bytes)
        (drop place.at bytes) read.before read.own entries fault read.leads refl (file_there (place.file - 1) files within)
        (rest_between read.start place.at bytes read.begins) read.follows are in
        (found.0, found.1 ∙ ap (λ (list : List LogEntry). list ++ found.0) (sym read.in_order))
    by (inr beyond) =
        let h = taken_nothing point files follower place taken beyond read entries fault are in
        ([], h.0 ∙ sym (append-nil taken))
