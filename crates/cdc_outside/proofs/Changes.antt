-- One change more: the parts of the model, and that what is seen stays an image.
use Rattle.std.proofs.Common.{◌≡◌, ◌⊎◌, inl, inr, ℕ, ◌+◌, ◌-◌, ◌≤◌, ◌<◌, min, max, Bool, true, false, ◌||◌, nat_le, nat_lt, ◌&&◌}
use Rattle.std.proofs.Common.{List, [], ◌∷◌, ◌++◌, length, get_or, slice_index, take, drop, refl, sym, ◌∙◌, ap, arith, length-append, length-take, length-drop}
use Rattle.std.proofs.lemmas.Bool.{cases_lt}
use Rattle.std.proofs.lemmas.Bool.Decides.{nat_tests}
use Rattle.std.proofs.lemmas.List.{get_or_append_left, get_or-append_right, get_or-take, get_or-drop}
use Rattle.cdc_outside.specs.Disk.{Change, Wrote, CutTo, MayLeave, overwritten, shortest, longest, is_written}

pub is_written_more : (place : ℕ) (changes : List Change) (change : Change) → is_written place (changes ++ change ∷ []) ≡ (is_written place changes || is_written place (change ∷ []))
is_written_more place [] change = refl
is_written_more place (Wrote at count ∷ changes) change = ap (λ b. (nat_le at place && nat_lt place (at + count)) || b) (is_written_more place changes change) ∙ or_assoc (nat_le at place && nat_lt place (at + count)) (is_written place changes) (is_written place (change ∷ []))
  where
    or_assoc : (a b c : Bool) → (a || (b || c)) ≡ ((a || b) || c)
    or_assoc true b c = refl
    or_assoc false b c = refl
is_written_more place (CutTo to ∷ changes) change = is_written_more place changes change

pub shortest_wrote : (synced : ℕ) (changes : List Change) (at count : ℕ) → shortest synced (changes ++ Wrote at count ∷ []) ≡ shortest synced changes
shortest_wrote synced [] at count = refl
shortest_wrote synced (Wrote a b ∷ changes) at count = shortest_wrote synced changes at count
shortest_wrote synced (CutTo to ∷ changes) at count = ap (min to) (shortest_wrote synced changes at count)

pub shortest_cut : (synced : ℕ) (changes : List Change) (to : ℕ) → shortest synced (changes ++ CutTo to ∷ []) ≡ min to (shortest synced changes)
shortest_cut synced [] to = refl
shortest_cut synced (Wrote a b ∷ changes) to = shortest_cut synced changes to
shortest_cut synced (CutTo other ∷ changes) to = let rest = shortest_cut synced changes to in omega arith

pub longest_wrote : (synced : ℕ) (changes : List Change) (at count : ℕ) → longest synced (changes ++ Wrote at count ∷ []) ≡ max (at + count) (longest synced changes)
longest_wrote synced [] at count = refl
longest_wrote synced (Wrote a b ∷ changes) at count = let rest = longest_wrote synced changes at count in omega arith
longest_wrote synced (CutTo to ∷ changes) at count = longest_wrote synced changes at count

pub longest_cut : (synced : ℕ) (changes : List Change) (to : ℕ) → longest synced (changes ++ CutTo to ∷ []) ≡ longest synced changes
longest_cut synced [] to = refl
longest_cut synced (Wrote a b ∷ changes) to = ap (max (a + b)) (longest_cut synced changes to)
longest_cut synced (CutTo other ∷ changes) to = longest_cut synced changes to

pub length_overwritten : (at : ℕ) (bytes old : List ℕ) → length (overwritten at bytes old) ≡ min at (length old) + length bytes + (length old - (at + length bytes))
length_overwritten at bytes old = omega (arith, length-append (take at old ++ bytes) (drop (at + length bytes) old), length-append (take at old) bytes, length-take at old, length-drop (at + length bytes) old)

pub overwritten_before : (at : ℕ) (bytes old : List ℕ) (place : ℕ) → place < at → place < length old → slice_index (overwritten at bytes old) place ≡ slice_index old place
overwritten_before at bytes old place before within =
    get_or_append_left (take at old ++ bytes) (drop (at + length bytes) old) 0 place (omega (arith, length-append (take at old) bytes, length-take at old))
    ∙ get_or_append_left (take at old) bytes 0 place (omega (arith, length-take at old))
    ∙ get_or-take at old place 0 before

pub overwritten_behind : (at : ℕ) (bytes old : List ℕ) (place : ℕ) → at + length bytes ≤ place → at ≤ length old → slice_index (overwritten at bytes old) place ≡ slice_index old place
overwritten_behind at bytes old place behind within =
    let size : length (take at old ++ bytes) ≡ at + length bytes = omega (arith, length-append (take at old) bytes, length-take at old) in
    get_or-append_right (take at old ++ bytes) (drop (at + length bytes) old) (at + length bytes) place 0 size behind
    ∙ get_or-drop (at + length bytes) old (place - (at + length bytes)) 0
    ∙ ap (λ k. get_or old k 0) (omega arith)

-- after a write
pub stays_written : (synced : List ℕ) (changes : List Change) (seen : List ℕ) (at : ℕ) (bytes : List ℕ) → MayLeave synced changes seen → MayLeave synced (changes ++ Wrote at (length bytes) ∷ []) (overwritten at bytes seen)
stays_written synced changes seen at bytes may =
    let size = length_overwritten at bytes seen in
    let short = shortest_wrote (length synced) changes at (length bytes) in
    let long = longest_wrote (length synced) changes at (length bytes) in
    record {
      no_shorter = omega (arith, size, short, may.no_shorter);
      no_longer = omega (arith, size, long, may.no_longer);
      same = λ place lt unwritten.
          let both : (is_written place changes || is_written place (Wrote at (length bytes) ∷ [])) ≡ false = sym (is_written_more place changes (Wrote at (length bytes))) ∙ unwritten in
          let within : place < length seen = omega (arith, short, may.no_shorter, lt) in
          let least : place < shortest (length synced) changes = omega (arith, short, lt) in
          at_place place both within ∙ may.same place least (neither (is_written place changes) (is_written place (Wrote at (length bytes) ∷ [])) both);
    }
  where
    neither : (a b : Bool) → (a || b) ≡ false → a ≡ false
    neither true b e = e
    neither false b e = refl

    outside : (place : ℕ) → (is_written place changes || is_written place (Wrote at (length bytes) ∷ [])) ≡ false → (place < at) ⊎ (at + length bytes ≤ place)
    outside place both = elim (cases_lt place at) [
      | inl before ↦ inl before
      | inr here ↦ elim (cases_lt place (at + length bytes)) [
        | inl inside ↦ absurd (grind (arith, nat_tests))
        | inr behind ↦ inr behind
      ]
    ]

    at_place : (place : ℕ) → (is_written place changes || is_written place (Wrote at (length bytes) ∷ [])) ≡ false → place < length seen → slice_index (overwritten at bytes seen) place ≡ slice_index seen place
    at_place place both within = elim (outside place both) [
      | inl before ↦ overwritten_before at bytes seen place before within
      | inr behind ↦ overwritten_behind at bytes seen place behind (omega arith)
    ]

-- after a cut
pub stays_cut : (synced : List ℕ) (changes : List Change) (seen : List ℕ) (to : ℕ) → MayLeave synced changes seen → MayLeave synced (changes ++ CutTo to ∷ []) (take to seen)
stays_cut synced changes seen to may =
    let short = shortest_cut (length synced) changes to in
    let long = longest_cut (length synced) changes to in
    record {
      no_shorter = omega (arith, short, may.no_shorter, length-take to seen);
      no_longer = omega (arith, long, may.no_longer, length-take to seen);
      same = λ place lt unwritten.
          let both : (is_written place changes || false) ≡ false = sym (is_written_more place changes (CutTo to)) ∙ unwritten in
          get_or-take to seen place 0 (omega (arith, short, lt)) ∙ may.same place (omega (arith, short, lt)) (neither (is_written place changes) both);
    }
  where
    neither : (a : Bool) → (a || false) ≡ false → a ≡ false
    neither true e = e
    neither false e = refl

-- nothing changed
pub stays_synced : (synced : List ℕ) → MayLeave synced [] synced
stays_synced synced = record { no_shorter = omega arith; no_longer = omega arith; same = λ place lt unwritten. refl }
