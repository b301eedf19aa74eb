-- The fault of entries is their first unsound one's.
use Rattle.std.proofs.Common.{◌≡◌, List, [], ◌∷◌, ◌++◌, reverse, Option, Some, None, MatchOption, ap, sym, refl, ◌∙◌}
use Rattle.cdc_base.specs.declared.place.Place.{Place}
use Rattle.cdc_model.specs.declared.fault.SortFault.{SortFault}
use Rattle.cdc_model.specs.declared.fault.NodeFault.TheVariants.{Sort}
use Rattle.cdc_model.specs.Records.{LogEntry, Start}
use Rattle.cdc_model.specs.Start.{next, left_by}
use Rattle.cdc_model.specs.Soundness.{entry_fault, AllSound, fault_or, sort_fault, sort_or}
use Rattle.cdc_model.specs.FirstFault.{IsFirstUnsound, SortFaultIsFirst, LogFaultIsFirst}
use Rattle.cdc_model.proofs.SoundFront.{left_behind}

-- what a search for the first unsound entry has found
abbrev Found : Start → List LogEntry → Option (Place × SortFault) → Type 0
Found start entries found = MatchOption found (AllSound start entries) (λ (found : Place × SortFault). IsFirstUnsound start entries found.0 found.1)

pub unsound_later : (start : Start) (entry : LogEntry) (entries : List LogEntry) (at : Place) (fault : SortFault) → entry_fault entry.kind start ≡ None
    → IsFirstUnsound (next entry.kind start) entries at fault → IsFirstUnsound start (entry ∷ entries) at fault
unsound_later start entry entries at fault none first = record {
  before = entry ∷ first.before;
  unsound = first.unsound;
  behind = first.behind;
  in_order = ap (λ (list : List LogEntry). entry ∷ list) first.in_order;
  sound = (none, first.sound);
  wrong = ap (entry_fault first.unsound.kind) (sym (left_behind start entry first.before)) ∙ first.wrong;
  place = first.place;
}

pub found_later : (start : Start) (entry : LogEntry) (entries : List LogEntry) (found : Option (Place × SortFault)) → entry_fault entry.kind start ≡ None
    → Found (next entry.kind start) entries found → Found start (entry ∷ entries) found
found_later start entry entries None none all = (none, all)
found_later start entry entries (Some (at, fault)) none first = unsound_later start entry entries at fault none first

pub found_at : (start : Start) (entry : LogEntry) (entries : List LogEntry) (fault : Option SortFault) (later : Option (Place × SortFault))
    → entry_fault entry.kind start ≡ fault → Found (next entry.kind start) entries later → Found start (entry ∷ entries) (fault_or entry.at fault later)
found_at start entry entries None later is behind = found_later start entry entries later is behind
found_at start entry entries (Some fault) later is behind = record {
  before = [];
  unsound = entry;
  behind = entries;
  in_order = refl;
  sound = tt;
  wrong = is;
  place = refl;
}

pub sort_fault_is_first : SortFaultIsFirst
sort_fault_is_first start [] = tt
sort_fault_is_first start (entry ∷ entries) =
    found_at start entry entries (entry_fault entry.kind start) (sort_fault (next entry.kind start) entries) refl
    (sort_fault_is_first (next entry.kind start) entries)

-- ---- the fault of a log

pub sound_fault : (start : Start) (entries : List LogEntry) → AllSound start entries → sort_fault start entries ≡ None
sound_fault start [] all = refl
sound_fault start (entry ∷ entries) (none, all) =
    ap (λ (f : Option SortFault). fault_or entry.at f (sort_fault (next entry.kind start) entries)) none
    ∙ sound_fault (next entry.kind start) entries all

-- the fault of a front of sound entries and what stands behind is that of what stands behind
pub fault_behind : (start : Start) (before behind : List LogEntry) → AllSound start before
    → sort_fault start (before ++ behind) ≡ sort_fault (left_by start (reverse before)) behind
fault_behind start [] behind all = refl
fault_behind start (entry ∷ before) behind (none, all) =
    ap (λ (f : Option SortFault). fault_or entry.at f (sort_fault (next entry.kind start) (before ++ behind))) none
    ∙ fault_behind (next entry.kind start) before behind all
    ∙ ap (λ (s : Start). sort_fault s behind) (left_behind start entry before)

pub unsound_fault : (start : Start) (entries : List LogEntry) (at : Place) (wrong : SortFault) → IsFirstUnsound start entries at wrong
    → sort_fault start entries ≡ Some (at, wrong)
unsound_fault start entries at wrong first =
    let here = left_by start (reverse first.before) in
    ap (sort_fault start) first.in_order
    ∙ fault_behind start first.before (first.unsound ∷ first.behind) first.sound
    ∙ ap (λ (f : Option SortFault). fault_or first.unsound.at f (sort_fault (next first.unsound.kind here) first.behind)) first.wrong
    ∙ ap (λ (p : Place). Some (p, wrong)) (sym first.place)

pub log_fault_is_first : LogFaultIsFirst
log_fault_is_first start entries ended = record {
  sound = λ all. ap (λ (f : Option (Place × SortFault)). sort_or Sort f ended) (sound_fault start entries all);
  unsound = λ at wrong first. ap (λ (f : Option (Place × SortFault)). sort_or Sort f ended) (unsound_fault start entries at wrong first);
}
