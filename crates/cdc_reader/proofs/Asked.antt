-- The least place asked for, beside a place before it.
use Rattle.std.proofs.Common.{◌≡◌, ◌<◌, ◌≤◌, ◌+◌, ◌-◌, inl, inr, ℕ, zero, suc, List, [], ◌∷◌, length, Option, Some, None, Result, Ok, Err, IfOk, OnErr, refl, sym, ap, subst, ◌∙◌, arith, le_refl}
use Rattle.std.specs.Prelude.{slice_index_or, MatchResult}
use Rattle.std.proofs.lemmas.Bool.Decides.{nat_tests}
use Rattle.cdc_base.specs.declared.place.Place.{Place}
use Rattle.cdc_outside.specs.Source.{earlier_place, lowered, file_of}
use Rattle.cdc_reader.specs.declared.log.Stopped.{Stopped}
use Rattle.cdc_reader.specs.Asking.{IsFromOn, NothingBelow, bytes_of_files, bytes_up_to}

-- a place
abbrev at_place : ℕ → ℕ → Place
at_place file at = record { file = file; at = at }

first_of_two : (f g h i : ℕ) → IsFromOn (at_place f g) (at_place h i) → earlier_place (at_place f g) (at_place h i) ≡ at_place f g
first_of_two f g h i on = grind (arith, nat_tests, on)

first_of_three : (f g h i : ℕ) (p : Place) → IsFromOn (at_place f g) (at_place h i)
    → earlier_place (at_place f g) (earlier_place (at_place h i) p) ≡ earlier_place (at_place f g) p
first_of_three f g h i p on = grind (arith, nat_tests, on)

pub lowered_behind : (before : Option Place) (start place : Place) → IsFromOn start place
    → lowered (lowered before place.file place.at) start.file start.at ≡ lowered before start.file start.at
lowered_behind None start place on = ap Some (first_of_two start.file start.at place.file place.at on)
lowered_behind (Some p) start place on = ap Some (first_of_three start.file start.at place.file place.at p on)

pub from_itself : (place : Place) → IsFromOn place place
from_itself place = inr (refl, le_refl place.at)

-- behind a place that is behind another one
pub from_further : (a b c : Place) → IsFromOn a b → IsFromOn b c → IsFromOn a c
from_further a b c (inl f) (inl g) = inl (omega (arith, f, g))
from_further a b c (inl f) (inr g) = let same = g.0 in inl (omega (arith, f, same))
from_further a b c (inr f) (inl g) = let same = f.0 in inl (omega (arith, same, g))
from_further a b c (inr f) (inr g) = let one = f.1 in let other = g.1 in inr (f.0 ∙ g.0, omega (arith, one, other))

-- nothing below a place is nothing below an earlier one
pub below_earlier : (start place : Place) (before now : Option Place) → IsFromOn start place → NothingBelow place before now → NothingBelow start before now
below_earlier start place before now on nothing =
    sym (lowered_behind now start place on) ∙ ap (λ (o : Option Place). lowered o start.file start.at) nothing ∙ lowered_behind before start place on

-- bytes from a place on were asked for
pub asked_there : (place : Place) (before now : Option Place) → now ≡ lowered before place.file place.at → NothingBelow place before now
asked_there place before now is = ap (λ (o : Option Place). lowered o place.file place.at) is ∙ lowered_behind before place place (from_itself place)

-- so many bytes on in the same file
pub from_bytes : (start place : Place) (count : ℕ) → place ≡ record { file = start.file; at = start.at + count } → IsFromOn start place
from_bytes start place count is =
    let file : place.file ≡ start.file = ap (λ (p : Place). p.file) is in
    let at : place.at ≡ start.at + count = ap (λ (p : Place). p.at) is in
    inr (sym file, omega (arith, at))

-- a later file
pub from_next : (start place : Place) → place ≡ record { file = start.file + 1; at = 0 } → IsFromOn start place
from_next start place is = let file : place.file ≡ start.file + 1 = ap (λ (p : Place). p.file) is in inl (omega (arith, file))

-- ---- how many bytes a log has up to a place

one_file_more : (count : ℕ) (files : List (List ℕ)) → count < length files → bytes_of_files (suc count) files ≡ bytes_of_files count files + length (slice_index_or files count [])
one_file_more count [] within = absurd (omega (arith, within))
one_file_more zero (file ∷ files) within = omega arith
one_file_more (suc count) (file ∷ files) within = let later = one_file_more count files (omega (arith, within)) in omega (arith, later)

-- the next file's start has no more bytes before it than the end of a file
pub bytes_at_next : (files : List (List ℕ)) (place next : Place) → 1 ≤ place.file → place.file ≤ length files → length (file_of files place.file) ≤ place.at
    → next ≡ record { file = place.file + 1; at = 0 } → bytes_up_to files next ≤ bytes_up_to files place
bytes_at_next files place next first there ends is =
    let more = one_file_more (place.file - 1) files (omega (arith, first, there)) in
    let count : next.file - 1 ≡ suc (place.file - 1) = let file = ap (λ (p : Place). p.file) is in omega (arith, file, first) in
    let at : next.at ≡ 0 = ap (λ (p : Place). p.at) is in
    let all : bytes_of_files (next.file - 1) files ≡ bytes_of_files (suc (place.file - 1)) files = ap (λ (n : ℕ). bytes_of_files n files) count in
    omega (arith, more, all, at, ends)

-- bytes more of the same file
pub bytes_behind : (files : List (List ℕ)) (place next : Place) (count : ℕ) → next ≡ record { file = place.file; at = place.at + count }
    → bytes_up_to files next ≡ bytes_up_to files place + count
bytes_behind files place next count is = ap (bytes_up_to files) is ∙ (let e : bytes_of_files (place.file - 1) files + (place.at + count) ≡ bytes_of_files (place.file - 1) files + place.at + count = omega arith in e)

-- what a read in a file comes to, behind files that were passed
pub walked_on : (X : Type 0) (files : List (List ℕ)) (old mid new : Place) (result : Result ℕ Stopped) → bytes_up_to files mid ≤ bytes_up_to files old
    → IfOk result (λ read. new ≡ record { file = mid.file; at = mid.at + read }) → OnErr result (X × (new ≡ mid))
    → MatchResult result (λ read. bytes_up_to files new ≤ bytes_up_to files old + read) (λ _. bytes_up_to files new ≤ bytes_up_to files old)
walked_on X files old mid new (Ok read) walked place err = let more = bytes_behind files mid new read place in omega (arith, walked, more)
walked_on X files old mid new (Err stopped) walked place err = subst (λ (p : Place). bytes_up_to files p ≤ bytes_up_to files old) (sym err.1) walked

pub went_onward : (X : Type 0) (old mid new : Place) (result : Result ℕ Stopped) → IsFromOn old mid
    → IfOk result (λ read. new ≡ record { file = mid.file; at = mid.at + read }) → OnErr result (X × (new ≡ mid)) → IsFromOn old new
went_onward X old mid new (Ok read) onward place err = from_further old mid new onward (from_bytes mid new read place)
went_onward X old mid new (Err stopped) onward place err = subst (λ (p : Place). IsFromOn old p) (sym err.1) onward
