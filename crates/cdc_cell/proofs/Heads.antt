-- The head of a slot, from its first bytes.
use Rattle.std.proofs.Common.{◌≡◌, ℕ, ◌+◌, ◌-◌, ◌≤◌, ◌<◌, nat_lt, true, false, List, length, take, drop, slice_index, Some, None, sym, ◌∙◌, ap, arith, length-take, length-drop}
use Rattle.std.specs.Int.{from_le_bytes, w64}
use Rattle.std.proofs.lemmas.Bool.Decides.{nat_tests}
use Rattle.std.proofs.lemmas.Grind.{same_number_lists}
use Rattle.std.proofs.lemmas.List.{get_or-take, get_or-drop}
use Rattle.cdc_cell.specs.Slot.{number_at, is_open, head_of, slot_number, slot_length}

-- a number within the first 17 bytes
pub piece_in : (place : ℕ) (file : List ℕ) → place + 8 ≤ 17 → take 8 (drop place (take 17 file)) ≡ take 8 (drop place file)
piece_in place file fits =
    same_number_lists (take 8 (drop place (take 17 file))) (take 8 (drop place file))
    (omega (arith, length-take 8 (drop place (take 17 file)), length-take 8 (drop place file), length-drop place (take 17 file), length-drop place file, length-take 17 file))
    (λ k lt.
    let within : k < 8 = omega (arith, length-take 8 (drop place (take 17 file))) in
    get_or-take 8 (drop place (take 17 file)) k 0 within ∙ get_or-drop place (take 17 file) k 0 ∙ get_or-take 17 file (place + k) 0 (omega arith)
    ∙ sym (get_or-drop place file k 0) ∙ sym (get_or-take 8 (drop place file) k 0 within))

pub number_in : (place : ℕ) (file front : List ℕ) (number : ℕ) → place + 8 ≤ 17 → take 17 file ≡ front → number ≡ from_le_bytes w64 (take 8 (drop place front)) → number ≡ number_at place file
unfolding number_at
number_in place file front number fits is read =
    let same : take 8 (drop place front) ≡ take 8 (drop place file) = ap (λ (l : List ℕ). take 8 (drop place l)) (sym is) ∙ piece_in place file fits in
    read ∙ ap (λ (l : List ℕ). from_le_bytes w64 l) same

pub is_open_here : (file : List ℕ) → 17 ≤ length file → slice_index file 0 ≡ 1 → is_open file ≡ true
is_open_here file long gate = grind (arith, nat_tests)

pub is_shut_here : (file : List ℕ) → (slice_index file 0 ≡ 1 → ⊥) → is_open file ≡ false
is_shut_here file shut = grind (arith, nat_tests)

pub is_short_here : (file : List ℕ) → length file < 17 → is_open file ≡ false
is_short_here file short = grind (arith, nat_tests)

pub head_open : (file : List ℕ) (number size : ℕ) → is_open file ≡ true → number ≡ slot_number file → size ≡ slot_length file
    → Some record { number = number; length = size; overruns = nat_lt (length file - 17) size } ≡ head_of file
head_open file number size open_ numbers sizes = rw (numbers, sizes, open_)

pub head_shut : (file : List ℕ) → is_open file ≡ false → None ≡ head_of file
head_shut file shut = rw shut
