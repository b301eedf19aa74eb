-- Each outcome that is picked is one that the model allows.
use Rattle.std.proofs.Common.{◌≡◌, ℕ, suc, zero, ◌+◌, ◌≤◌, ◌<◌, ◌%◌, ◌==◌, Bool, true, false, ◌||◌, nat_le, if◌then◌else◌, List, [], ◌∷◌, ◌++◌, length, get_or, slice_index, take, refl, sym, ◌∙◌, ap, arith, length-take}
use Rattle.std.proofs.lemmas.Bool.Decides.{nat_tests}
use Rattle.std.proofs.lemmas.List.{get_or-take, take_more}
use Rattle.cdc_outside.specs.Disk.{Change, Wrote, CutTo, MayLeave, shortest, longest, is_written}
use Rattle.cdc_memory.specs.CrashPick.{marked, crash_pick, picked}
use Rattle.cdc_memory.specs.Replay.{Holding, LeavesNow}

shortest_within : (synced : ℕ) (changes : List Change) → shortest synced changes ≤ synced
shortest_within synced [] = omega arith
shortest_within synced (Wrote a b ∷ changes) = shortest_within synced changes
shortest_within synced (CutTo to ∷ changes) = omega (arith, shortest_within synced changes)

longest_beyond : (synced : ℕ) (changes : List Change) → synced ≤ longest synced changes
longest_beyond synced [] = omega arith
longest_beyond synced (Wrote a b ∷ changes) = omega (arith, longest_beyond synced changes)
longest_beyond synced (CutTo to ∷ changes) = longest_beyond synced changes

length_marked : (value place synced : ℕ) (changes : List Change) (bytes : List ℕ) → length (marked value place synced changes bytes) ≡ length bytes
length_marked value place synced changes [] = refl
length_marked value place synced changes (byte ∷ bytes) = ap suc (length_marked value (place + 1) synced changes bytes)

marked_at : (value place synced : ℕ) (changes : List Change) (bytes : List ℕ) (k : ℕ) → place + k < synced → is_written (place + k) changes ≡ false → slice_index (marked value place synced changes bytes) k ≡ slice_index bytes k
marked_at value place synced changes [] k lt un = refl
marked_at value place synced changes (byte ∷ bytes) zero lt un =
    let here : is_written place changes ≡ false = ap (λ n. is_written n changes) (omega arith) ∙ un in
    let within : nat_le synced place ≡ false = outside synced place (omega arith) in
    ap (λ b. if b || nat_le synced place then value else byte) here ∙ ap (λ b. if b then value else byte) within
  where
    outside : (a b : ℕ) → b < a → nat_le a b ≡ false
    outside a b lt = grind (arith, nat_tests)
marked_at value place synced changes (byte ∷ bytes) (suc k) lt un =
    marked_at value (place + 1) synced changes bytes k (omega arith) (ap (λ n. is_written n changes) (omega arith) ∙ un)

-- one byte more
pub marked_more : (value place synced : ℕ) (changes : List Change) (bytes : List ℕ) (byte : ℕ)
    → marked value place synced changes (bytes ++ byte ∷ []) ≡ marked value place synced changes bytes ++ (if is_written (place + length bytes) changes || nat_le synced (place + length bytes) then value else byte) ∷ []
marked_more value place synced changes [] byte = ap (λ n. (if is_written n changes || nat_le synced n then value else byte) ∷ []) (omega arith)
marked_more value place synced changes (first ∷ bytes) byte =
    ap (λ (l : List ℕ). (if is_written place changes || nat_le synced place then value else first) ∷ l)
    (marked_more value (place + 1) synced changes bytes byte ∙ ap (λ n. marked value (place + 1) synced changes bytes ++ (if is_written n changes || nat_le synced n then value else byte) ∷ []) (omega arith))

pub marked_next : (value synced place : ℕ) (changes : List Change) (seen before : List ℕ) (byte now : ℕ) → place < length seen → byte ≡ get_or seen place 0 → before ≡ marked value 0 synced changes (take place seen)
    → now ≡ (if is_written place changes || nat_le synced place then value else byte) → before ++ now ∷ [] ≡ marked value 0 synced changes (take (place + 1) seen)
marked_next value synced place changes seen before byte now lt is was here =
    let size : 0 + length (take place seen) ≡ place = omega (arith, length-take place seen) in
    ap (λ (l : List ℕ). l ++ now ∷ []) was ∙ ap (λ n. marked value 0 synced changes (take place seen) ++ n ∷ []) here
    ∙ ap (λ n. marked value 0 synced changes (take place seen) ++ (if is_written n changes || nat_le synced n then value else byte) ∷ []) (sym size)
    ∙ sym (marked_more value 0 synced changes (take place seen) byte)
    ∙ ap (marked value 0 synced changes) (ap (λ n. take place seen ++ n ∷ []) is ∙ sym (take_more seen place 0 lt))

cut_back : (synced : List ℕ) (changes : List Change) → MayLeave synced changes (take (shortest (length synced) changes) synced)
cut_back synced changes =
    let short = shortest_within (length synced) changes in
    let long = longest_beyond (length synced) changes in
    record {
      no_shorter = omega (arith, short, length-take (shortest (length synced) changes) synced);
      no_longer = omega (arith, long, length-take (shortest (length synced) changes) synced);
      same = λ place lt un. get_or-take (shortest (length synced) changes) synced place 0 lt;
    }

marks : (value : ℕ) (synced seen : List ℕ) (changes : List Change) → MayLeave synced changes seen → MayLeave synced changes (marked value 0 (length synced) changes seen)
marks value synced seen changes may =
    let size = length_marked value 0 (length synced) changes seen in
    record {
      no_shorter = omega (arith, size, may.no_shorter);
      no_longer = omega (arith, size, may.no_longer);
      same = λ place lt un. marked_at value 0 (length synced) changes seen place (omega (arith, shortest_within (length synced) changes)) (ap (λ n. is_written n changes) (omega arith) ∙ un) ∙ may.same place lt un;
    }

of_flags : (zero_ one two : Bool) (synced seen : List ℕ) (changes : List Change) → MayLeave synced changes seen
    → MayLeave synced changes (if zero_ then take (shortest (length synced) changes) synced else if one then seen else if two then marked 165 0 (length synced) changes seen else marked 1 0 (length synced) changes seen)
of_flags true one two synced seen changes may = cut_back synced changes
of_flags false true two synced seen changes may = may
of_flags false false true synced seen changes may = marks 165 synced seen changes may
of_flags false false false synced seen changes may = marks 1 synced seen changes may

pub pick_is_image : (pick : ℕ) (holding : Holding) → LeavesNow holding holding.seen → LeavesNow holding (picked pick holding)
pick_is_image pick holding may = λ file. of_flags (pick % 4 == 0) (pick % 4 == 1) (pick % 4 == 2) (holding.last_sync file) (holding.seen file) (holding.pending file) (may file)

nothing_marked : (zero_ one two : Bool) (least : ℕ) (changes : List Change) → (if zero_ then take least [] else if one then [] else if two then marked 165 0 0 changes [] else marked 1 0 0 changes []) ≡ []
nothing_marked true one two zero changes = refl
nothing_marked true one two (suc least) changes = refl
nothing_marked false true two least changes = refl
nothing_marked false false true least changes = refl
nothing_marked false false false least changes = refl

-- nothing is picked of a file without bytes
pub nothing_picked : (pick : ℕ) (synced seen : List ℕ) (changes : List Change) → synced ≡ [] → seen ≡ [] → crash_pick pick synced changes seen ≡ []
nothing_picked pick synced seen changes was is =
    ap (λ (l : List ℕ). crash_pick pick l changes seen) was ∙ ap (λ (l : List ℕ). crash_pick pick [] changes l) is
    ∙ nothing_marked (pick % 4 == 0) (pick % 4 == 1) (pick % 4 == 2) (shortest 0 changes) changes
