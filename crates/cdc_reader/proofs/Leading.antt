-- What a log has behind what was taken of it, file by file.
use Rattle.std.proofs.Common.{◌≡◌, ◌≤◌, ◌<◌, inl, inr, ℕ, zero, suc, ◌+◌, ◌-◌, List, [], ◌∷◌, ◌++◌, length, take, drop, Option, Some, None, ap, sym, subst, refl, ◌∙◌, append_assoc, append-nil, arith}
use Rattle.cdc_base.specs.declared.place.Place.{Place}
use Rattle.cdc_event.specs.File.{FilesHaveOneReading, in_header, AreEventsFrom}
use Rattle.cdc_outside.specs.Source.{file_of}
use Rattle.cdc_model.specs.declared.fault.NodeFault.{NodeFault}
use Rattle.cdc_model.specs.Records.{LogEntry}
use Rattle.cdc_model.specs.Group.{Out}
use Rattle.cdc_model.specs.Entries.{AreEntriesFrom}
use Rattle.cdc_model.specs.ReadFrom.{AreEntriesOn, AreEntriesReadFrom}
use Rattle.cdc_model.specs.Restart.{RestartPoint}
use Rattle.cdc_model.proofs.GroupReading.{reads_nothing}
use Rattle.cdc_reader.specs.declared.follower.Follower.{Follower}
use Rattle.cdc_reader.specs.Fed.{AreFedEntries, Follows, EndsFile}
use Rattle.cdc_reader.specs.LogFront.{LeadsTo}
use Rattle.cdc_reader.proofs.Finding.{BeginsWithOwn, one_fed, begins_with_own}
use Rattle.cdc_reader.proofs.Pieces.{same_file_there, same_before}

-- ---- one file

pub front_of_file : (file start checksum : ℕ) (bytes : List ℕ) (files : List (List ℕ)) (follower : Follower) (fed more : List ℕ) (own later : List LogEntry)
    (fault : Option (Place × NodeFault)) → Follows follower file start checksum fed own → drop start bytes ≡ fed ++ more
    → AreEntriesOn file start checksum (bytes ∷ files) later fault → BeginsWithOwn own later
front_of_file file start checksum bytes files follower fed more own later fault follows is (inl (not, are)) =
    begins_with_own file start checksum follower.cutter fed more follows.given own follows.progress later fault follows.cut follows.reads
    (subst (λ (list : List ℕ). AreFedEntries file start checksum list later fault) is are)
front_of_file file start checksum bytes files follower fed more own later fault follows is (inr (mine, rest, all, are, from)) =
    let found = begins_with_own file start checksum follower.cutter fed more follows.given own follows.progress mine None follows.cut follows.reads
    (subst (λ (list : List ℕ). AreFedEntries file start checksum list mine None) is are) in
    (found.0 ++ rest, all ∙ ap (λ (list : List LogEntry). list ++ rest) found.1 ∙ append_assoc own found.0 rest)

-- the entries of a file, and those of the files behind it
pub record GoesBehind (file : ℕ) (files : List (List ℕ)) (own later : List LogEntry) (fault : Option (Place × NodeFault)) : Type 0 where
  pub rest : List LogEntry
  pub is : later ≡ own ++ rest
  pub from : AreEntriesFrom (file + 1) files rest fault

pub all_of_file : FilesHaveOneReading → (file start checksum : ℕ) (bytes : List ℕ) (files : List (List ℕ)) (fed : List ℕ) (own later : List LogEntry)
    (fault : Option (Place × NodeFault)) → AreFedEntries file start checksum fed own None → drop start bytes ≡ fed
    → AreEntriesOn file start checksum (bytes ∷ files) later fault → GoesBehind file files own later fault
all_of_file one file start checksum bytes files fed own later fault found is (inl (not, are)) =
    absurd (not (one_fed one file start checksum fed later own fault None (subst (λ (list : List ℕ). AreFedEntries file start checksum list later fault) is are) found).1)
all_of_file one file start checksum bytes files fed own later fault found is (inr (mine, rest, all, are, from)) =
    let same = (one_fed one file start checksum fed mine own None None (subst (λ (list : List ℕ). AreFedEntries file start checksum list mine None) is are) found).0 in
    record { rest = rest; is = all ∙ ap (λ (list : List LogEntry). list ++ rest) same; from = from }

no_fault : (fault : Place × NodeFault) → None ≡ Some fault → ⊥
no_fault fault e = cc

pub end_of_file : (file start checksum : ℕ) (bytes : List ℕ) (files : List (List ℕ)) (fed more : List ℕ) (own later : List LogEntry)
    (fault : Option (Place × NodeFault)) (wrong : Place × NodeFault) → EndsFile file start checksum fed own (Some wrong) → drop start bytes ≡ fed ++ more
    → AreEntriesOn file start checksum (bytes ∷ files) later fault → (later ≡ own) × (fault ≡ Some wrong)
end_of_file file start checksum bytes files fed more own later fault wrong ends is (inl (not, are)) =
    ends more later fault (subst (λ (list : List ℕ). AreFedEntries file start checksum list later fault) is are)
end_of_file file start checksum bytes files fed more own later fault wrong ends is (inr (mine, rest, all, are, from)) =
    absurd (no_fault wrong (ends more mine None (subst (λ (list : List ℕ). AreFedEntries file start checksum list mine None) is are)).1)

-- ---- no bytes

empty_events : (start checksum : ℕ) → AreEventsFrom start checksum [] [] None
empty_events zero checksum = inl (omega arith, refl, refl)
empty_events (suc start) checksum = in_header (omega arith)

pub nothing_fed : (file start checksum : ℕ) → AreFedEntries file start checksum [] [] None
nothing_fed file start checksum = ([], None, empty_events start checksum, inl (Out, reads_nothing file, refl))

nothing_in : (own later : List LogEntry) → [] ≡ own ++ later → own ≡ []
nothing_in [] later e = refl
nothing_in (entry ∷ own) later e = absurd (let h : [] ≡ entry ∷ (own ++ later) = e in cc)

-- in no bytes no entries were found
pub nothing_found : (file start checksum : ℕ) (follower : Follower) (fed : List ℕ) (own : List LogEntry) → Follows follower file start checksum fed own → fed ≡ [] → own ≡ []
nothing_found file start checksum follower fed own follows none =
    let found = begins_with_own file start checksum follower.cutter fed [] follows.given own follows.progress [] None follows.cut follows.reads
    (subst (λ (list : List ℕ). AreFedEntries file start checksum list [] None) (sym (append-nil fed ∙ none)) (nothing_fed file start checksum)) in
    nothing_in own found.0 found.1

-- ---- from file to file

pub leads_first : (point : RestartPoint) (files : List (List ℕ)) → LeadsTo point files point.place.file point.place.at point.checksum []
leads_first point files others entries fault same are = (entries, refl, are)

from_start : (file checksum : ℕ) (files : List (List ℕ)) (entries : List LogEntry) (fault : Option (Place × NodeFault))
    → AreEntriesFrom file files entries fault → AreEntriesOn file 0 checksum files entries fault
from_start file checksum [] entries fault are = are
from_start file checksum (bytes ∷ files) entries fault are = are

pub leads_on : FilesHaveOneReading → (point : RestartPoint) (files : List (List ℕ)) (file start checksum setting : ℕ) (fed : List ℕ) (before own : List LogEntry)
    → 1 ≤ file → file ≤ length files → LeadsTo point files file start checksum before → AreFedEntries file start checksum fed own None
    → drop start (file_of files file) ≡ fed → LeadsTo point files (file + 1) 0 setting (before ++ own)
leads_on one point files file start checksum setting fed before own first there leads found is others entries fault same are =
    let k : ℕ = file - 1 in
    let behind : file + 1 - 1 ≡ suc k = omega arith in
    let within : k < length files = omega arith in
    let same_here : take (suc k) others ≡ take (suc k) files = subst (λ (n : ℕ). take n others ≡ take n files) behind same in
    let led = leads others entries fault (same_before k others files same_here) are in
    let on : AreEntriesOn file start checksum (file_of files file ∷ drop (suc k) others) led.0 fault =
    subst (λ (list : List (List ℕ)). AreEntriesOn file start checksum list led.0 fault) (same_file_there k others files within same_here) led.2 in
    let later = all_of_file one file start checksum (file_of files file) (drop (suc k) others) fed own led.0 fault found is on in (
      later.rest,
      led.1 ∙ ap (λ (list : List LogEntry). before ++ list) later.is ∙ sym (append_assoc before own later.rest),
      subst (λ (n : ℕ). AreEntriesOn (file + 1) 0 setting (drop n others) later.rest fault) (sym behind)
          (from_start (file + 1) setting (drop (suc k) others) later.rest fault later.from),
    )

-- ---- where the log ends, or a fault ends it

-- its entries are these, and then this fault or none
abbrev pub EndsAs : List LogEntry → Option (Place × NodeFault) → List LogEntry → Option (Place × NodeFault) → Type 0
EndsAs taken wrong entries fault = (entries ≡ taken) × (fault ≡ wrong)

pub whole_led : FilesHaveOneReading → (point : RestartPoint) (files others : List (List ℕ)) (file start checksum : ℕ) (bytes fed : List ℕ) (before own : List LogEntry)
    (entries : List LogEntry) (fault : Option (Place × NodeFault)) → LeadsTo point files file start checksum before → take (file - 1) others ≡ take (file - 1) files
    → drop (file - 1) others ≡ bytes ∷ [] → drop start bytes ≡ fed → AreFedEntries file start checksum fed own None
    → AreEntriesReadFrom point.place point.checksum others entries fault → EndsAs (before ++ own) None entries fault
whole_led one point files others file start checksum bytes fed before own entries fault leads same there is found are =
    let led = leads others entries fault same are in
    let on : AreEntriesOn file start checksum (bytes ∷ []) led.0 fault =
    subst (λ (list : List (List ℕ)). AreEntriesOn file start checksum list led.0 fault) there led.2 in
    let later = all_of_file one file start checksum bytes [] fed own led.0 fault found is on in
    let none : later.rest ≡ [] = later.from.0 in (
      led.1 ∙ ap (λ (list : List LogEntry). before ++ list) (later.is ∙ ap (λ (list : List LogEntry). own ++ list) none ∙ append-nil own),
      later.from.1,
    )

pub nothing_led : (point : RestartPoint) (files others : List (List ℕ)) (file start checksum : ℕ) (before : List LogEntry)
    (entries : List LogEntry) (fault : Option (Place × NodeFault)) → LeadsTo point files file start checksum before → take (file - 1) others ≡ take (file - 1) files
    → drop (file - 1) others ≡ [] → AreEntriesReadFrom point.place point.checksum others entries fault → EndsAs before None entries fault
nothing_led point files others file start checksum before entries fault leads same there are =
    let led = leads others entries fault same are in
    let on : (led.0 ≡ []) × (fault ≡ None) =
    subst (λ (list : List (List ℕ)). AreEntriesOn file start checksum list led.0 fault) there led.2 in
    (led.1 ∙ ap (λ (list : List LogEntry). before ++ list) on.0 ∙ append-nil before, on.1)

pub fault_led : (point : RestartPoint) (files others further : List (List ℕ)) (file start checksum : ℕ) (bytes fed more : List ℕ) (before own : List LogEntry)
    (wrong : Place × NodeFault) (entries : List LogEntry) (fault : Option (Place × NodeFault)) → LeadsTo point files file start checksum before
    → take (file - 1) others ≡ take (file - 1) files → drop (file - 1) others ≡ bytes ∷ further → drop start bytes ≡ fed ++ more
    → EndsFile file start checksum fed own (Some wrong) → AreEntriesReadFrom point.place point.checksum others entries fault
    → EndsAs (before ++ own) (Some wrong) entries fault
fault_led point files others further file start checksum bytes fed more before own wrong entries fault leads same there is ends are =
    let led = leads others entries fault same are in
    let on : AreEntriesOn file start checksum (bytes ∷ further) led.0 fault =
    subst (λ (list : List (List ℕ)). AreEntriesOn file start checksum list led.0 fault) there led.2 in
    let here = end_of_file file start checksum bytes further fed more own led.0 fault wrong ends is on in
    (led.1 ∙ ap (λ (list : List LogEntry). before ++ list) here.0, here.1)

pub front_led : (point : RestartPoint) (files others further : List (List ℕ)) (file start checksum : ℕ) (follower : Follower) (bytes fed more : List ℕ) (before own : List LogEntry)
    (entries : List LogEntry) (fault : Option (Place × NodeFault)) → LeadsTo point files file start checksum before
    → take (file - 1) others ≡ take (file - 1) files → drop (file - 1) others ≡ bytes ∷ further → drop start bytes ≡ fed ++ more
    → Follows follower file start checksum fed own → AreEntriesReadFrom point.place point.checksum others entries fault
    → BeginsWithOwn (before ++ own) entries
front_led point files others further file start checksum follower bytes fed more before own entries fault leads same there is follows are =
    let led = leads others entries fault same are in
    let on : AreEntriesOn file start checksum (bytes ∷ further) led.0 fault =
    subst (λ (list : List (List ℕ)). AreEntriesOn file start checksum list led.0 fault) there led.2 in
    let found = front_of_file file start checksum bytes further follower fed more own led.0 fault follows is on in
    (found.0, led.1 ∙ ap (λ (list : List LogEntry). before ++ list) found.1 ∙ sym (append_assoc before own found.0))
