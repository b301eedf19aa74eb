-- The sound entries are the longest sound front.
use Rattle.std.proofs.Common.{◌≡◌, List, [], ◌∷◌, ◌++◌, Option, Some, None, is_none, if◌then◌else◌, reverse, ap, sym, subst, refl, ◌∙◌}
use Rattle.std.proofs.lemmas.Grind.{reverse_onto}
use Rattle.cdc_model.specs.declared.fault.SortFault.{SortFault}
use Rattle.cdc_model.specs.Records.{LogEntry, Start}
use Rattle.cdc_model.specs.Start.{next, left_by}
use Rattle.cdc_model.specs.Soundness.{entry_fault, sound_entries, EndsAt, IsLongestSoundFront, SoundIsLongest}

pub left_append : (start : Start) (later earlier : List LogEntry) → left_by start (later ++ earlier) ≡ left_by (left_by start earlier) later
left_append start [] earlier = refl
left_append start (entry ∷ later) earlier = ap (next entry.kind) (left_append start later earlier)

-- what a list of entries leaves is what the others leave behind its first
pub left_behind : (start : Start) (entry : LogEntry) (later : List LogEntry)
    → left_by (next entry.kind start) (reverse later) ≡ left_by start (reverse (entry ∷ later))
left_behind start entry later =
    sym (left_append start (reverse later) (entry ∷ [])) ∙ ap (left_by start) (sym (reverse_onto later entry []))

pub sound_first : (start : Start) (entry : LogEntry) (entries sound : List LogEntry) → entry_fault entry.kind start ≡ None
    → IsLongestSoundFront (next entry.kind start) entries sound → IsLongestSoundFront start (entry ∷ entries) (entry ∷ sound)
sound_first start entry entries sound none longest = record {
  rest = longest.rest;
  front = ap (λ (list : List LogEntry). entry ∷ list) longest.front;
  sound_all = (none, longest.sound_all);
  longest = subst (λ (s : Start). EndsAt s longest.rest) (left_behind start entry sound) longest.longest;
}

pub longest_at : (start : Start) (entry : LogEntry) (entries sound : List LogEntry) (fault : Option SortFault) → entry_fault entry.kind start ≡ fault
    → IsLongestSoundFront (next entry.kind start) entries sound
    → IsLongestSoundFront start (entry ∷ entries) (if is_none fault then entry ∷ sound else [])
longest_at start entry entries sound None is longest = sound_first start entry entries sound is longest
longest_at start entry entries sound (Some fault) is longest = record {
  rest = entry ∷ entries;
  front = refl;
  sound_all = tt;
  longest = λ none. cc;
}

pub sound_is_longest : SoundIsLongest
sound_is_longest start [] = record { rest = []; front = refl; sound_all = tt; longest = tt }
sound_is_longest start (entry ∷ entries) =
    longest_at start entry entries (sound_entries (next entry.kind start) entries) (entry_fault entry.kind start) refl
    (sound_is_longest (next entry.kind start) entries)
