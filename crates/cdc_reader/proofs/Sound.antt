-- Sound entries in front of others.
use Rattle.std.proofs.Common.{◌≡◌, List, [], ◌∷◌, ◌++◌, Option, Some, None, is_none, if◌then◌else◌, reverse, ap, sym, refl, ◌∙◌, append_assoc, append-nil}
use Rattle.cdc_base.specs.declared.place.Place.{Place}
use Rattle.cdc_model.specs.declared.fault.SortFault.{SortFault}
use Rattle.cdc_model.specs.declared.fault.NodeFault.{NodeFault}
use Rattle.cdc_model.specs.declared.fault.NodeFault.TheVariants.{Sort}
use Rattle.cdc_model.specs.Records.{LogEntry, Start}
use Rattle.cdc_model.specs.Start.{next, left_by}
use Rattle.cdc_model.specs.Soundness.{entry_fault, sound_entries, AllSound, sort_fault, sort_or, log_fault}
use Rattle.cdc_model.specs.SettledOrder.{IsFront}
use Rattle.cdc_model.proofs.SoundFront.{left_behind}
use Rattle.cdc_model.proofs.FaultOrder.{sound_fault, unsound_fault}

-- the first entries that are sound stand in front of the sound ones
pub sound_in_front : (start : Start) (front rest : List LogEntry) → AllSound start front
    → sound_entries start (front ++ rest) ≡ front ++ sound_entries (left_by start (reverse front)) rest
sound_in_front start [] rest all = refl
sound_in_front start (entry ∷ front) rest (none, all) =
    ap (λ (f : Option SortFault). if is_none f then entry ∷ sound_entries (next entry.kind start) (front ++ rest) else []) none
    ∙ ap (λ (list : List LogEntry). entry ∷ list)
    (sound_in_front (next entry.kind start) front rest all ∙ ap (λ (s : Start). front ++ sound_entries s rest) (left_behind start entry front))

-- an entry more that is sound behind them
pub one_sound_more : (start : Start) (front : List LogEntry) (entry : LogEntry) → AllSound start front
    → entry_fault entry.kind (left_by start (reverse front)) ≡ None → AllSound start (front ++ entry ∷ [])
one_sound_more start [] entry all none = (none, tt)
one_sound_more start (first ∷ front) entry (here, all) none =
    (here, one_sound_more (next first.kind start) front entry all (ap (entry_fault entry.kind) (left_behind start first front) ∙ none))

-- ---- what is read

-- the sound entries of a log and its fault
abbrev pub ReadsSound : Start → List LogEntry → Option (Place × NodeFault) → List LogEntry → Option (Place × NodeFault) → Type 0
ReadsSound start taken fault entries ended = (sound_entries start entries ≡ taken) × (log_fault Sort start entries ended ≡ fault)

pub reads_all_sound : (start : Start) (taken entries : List LogEntry) (fault ended : Option (Place × NodeFault)) → AllSound start taken
    → entries ≡ taken → ended ≡ fault → ReadsSound start taken fault entries ended
reads_all_sound start taken entries fault ended all same is = (
  ap (sound_entries start) (same ∙ sym (append-nil taken)) ∙ sound_in_front start taken [] all ∙ append-nil taken,
  ap (λ (list : List LogEntry). log_fault Sort start list ended) same
      ∙ ap (λ (f : Option (Place × SortFault)). sort_or Sort f ended) (sound_fault start taken all) ∙ is,
)

pub reads_to_unsound : (start : Start) (taken : List LogEntry) (unsound : LogEntry) (rest entries : List LogEntry) (wrong : SortFault) (ended : Option (Place × NodeFault))
    → AllSound start taken → entry_fault unsound.kind (left_by start (reverse taken)) ≡ Some wrong → entries ≡ (taken ++ unsound ∷ []) ++ rest
    → ReadsSound start taken (Some (unsound.at, Sort wrong)) entries ended
reads_to_unsound start taken unsound rest entries wrong ended all faulty is =
    let split : entries ≡ taken ++ unsound ∷ rest = is ∙ append_assoc taken (unsound ∷ []) rest in
    let here : Start = left_by start (reverse taken) in
    let stops : sound_entries here (unsound ∷ rest) ≡ [] =
    ap (λ (f : Option SortFault). if is_none f then unsound ∷ sound_entries (next unsound.kind here) rest else []) faulty in
    let found : sort_fault start entries ≡ Some (unsound.at, wrong) =
    unsound_fault start entries unsound.at wrong record { before = taken; unsound = unsound; behind = rest; in_order = split; sound = all; wrong = faulty; place = refl } in (
      ap (sound_entries start) split ∙ sound_in_front start taken (unsound ∷ rest) all ∙ ap (λ (list : List LogEntry). taken ++ list) stops ∙ append-nil taken,
      ap (λ (f : Option (Place × SortFault)). sort_or Sort f ended) found,
    )

pub front_is_sound : (start : Start) (taken entries rest : List LogEntry) → AllSound start taken → entries ≡ taken ++ rest → IsFront taken (sound_entries start entries)
front_is_sound start taken entries rest all is = record {
  rest = sound_entries (left_by start (reverse taken)) rest;
  is = ap (sound_entries start) is ∙ sound_in_front start taken rest all;
}
