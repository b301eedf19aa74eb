-- What a step of a stage costs.
use Rattle.std.proofs.Common.{◌≡◌, ℕ, ◌+◌, ◌*◌, ◌≤◌, Bool, true, false, not, List, [], ◌∷◌, ◌++◌, length, length-append, append-nil, reverse, Some, refl, sym, ap, ◌∙◌, arith, le_refl}
use Rattle.std.specs.Prelude.{◌==◌}
use Rattle.std.proofs.lemmas.Bool.Decides.{nat_tests}
use Rattle.std.proofs.lemmas.Nat.{mul-le, column_fits}
use Rattle.cdc_model.specs.Records.{LogEntry}
use Rattle.cdc_model.specs.Feed.{NodeFeed}
use Rattle.cdc_model.specs.NodeReading.{feed_told}
use Rattle.cdc_model.specs.Watermark.{node_low_water_mark}
use Rattle.cdc_sorter.specs.Sorting.{SortReading, low_of}
use Rattle.cdc_sorter.specs.Trail.{reading_start}
use Rattle.cdc_reader.specs.declared.step.NodeEnd.{NodeEnd}
use Rattle.cdc_reader.specs.declared.step.NodeEnd.TheVariants.{Open, Whole, Read as ReadFailed, Memory as NoMemory, Fault as Faulty}
use Rattle.cdc_reader.specs.declared.step.Step.{Step}
use Rattle.cdc_reader.specs.declared.step.Step.TheVariants.{Branch as GivesBranch, Bound as TellsBound, Read as BytesRead, End as LastStep}
use Rattle.cdc_reader.specs.Standing.{ReaderState, AllGiven, IsReading, is_going, feed_by, Comes}
use Rattle.cdc_turns.specs.Turns.{one_if}
use Rattle.cdc_node_stage.specs.Sending.{NodeState}
use Rattle.cdc_node_stage.specs.Turning.{items_at_hand, moves_waiting, moves_left, node_work}
use Rattle.cdc_node_stage.specs.Preparing.{item_of}
use Rattle.cdc_node_stage.proofs.Counts.{waits, committed_more}

-- ---- whether the mark is to be told

-- a reader's low-water mark, by what its sorter keeps
abbrev pub low_at : ReaderState → ℕ
low_at reader = node_low_water_mark (reading_start reader.sorter.here)

abbrev pub to_tell : ReaderState → ℕ
to_tell reader = one_if (not (reader.told == low_at reader))

told_none : (a b : ℕ) → a ≡ b → one_if (not (a == b)) ≡ 0
told_none a b is = ap (λ (t : Bool). one_if (not t)) (let e : (a == b) ≡ true = grind (arith, nat_tests, is) in e)

told_one : (a b : ℕ) → (a ≡ b → ⊥) → one_if (not (a == b)) ≡ 1
told_one a b isnt = by (a == b) refl
  where
    by : (t : Bool) → (a == b) ≡ t → one_if (not t) ≡ 1
    by true e = absurd (isnt (grind (arith, nat_tests, e)))
    by false e = refl

pub at_most_one : (b : Bool) → one_if b ≤ 1
at_most_one true = omega arith
at_most_one false = omega arith

module _ (tells : Bool) (files : List (List ℕ)) (old new : ReaderState) (reading : SortReading) (taken : List LogEntry) (feed : NodeFeed)
    (before : IsReading tells files old reading taken feed) where
  low_before : low_at old ≡ low_of reading (reverse taken)
  low_before = ap node_low_water_mark before.feeding.sorted.here

  low_behind_more : (more : List LogEntry) (later : NodeFeed) → IsReading tells files new reading (taken ++ more) later → low_at new ≡ low_of reading (reverse (taken ++ more))
  low_behind_more more later reads = ap node_low_water_mark reads.feeding.sorted.here

  low_still : (later : NodeFeed) → IsReading tells files new reading (taken ++ []) later → low_at new ≡ low_at old
  low_still later reads = low_behind_more [] later reads ∙ ap (λ (list : List LogEntry). low_of reading (reverse list)) (append-nil taken) ∙ sym low_before

  -- where no mark is told
  tell_within : (more : List LogEntry) (later : NodeFeed) → IsReading tells files new reading (taken ++ more) later → later.bound ≡ feed.bound → to_tell new ≤ to_tell old + length more
  tell_within [] later reads same =
      let told : new.told ≡ old.told = reads.feeding.told ∙ same ∙ sym before.feeding.told in
      let e : to_tell new ≡ to_tell old = ap (λ (n : ℕ). one_if (not (n == low_at new))) told ∙ ap (λ (n : ℕ). one_if (not (old.told == n))) (low_still later reads) in
      omega (arith, e)
  tell_within (entry ∷ more) later reads same = let most = at_most_one (not (new.told == low_at new)) in omega (arith, most)

  -- where it is told
  told_now : (more : List LogEntry) (bound : ℕ) → IsReading tells files new reading (taken ++ more) (feed_told feed bound) → (bound ≡ old.told → ⊥)
      → AllGiven reading (taken ++ more) (feed_told feed bound) → to_tell new + 1 ≤ to_tell old + length more
  told_now [] bound reads isnt given =
      let told : new.told ≡ bound = reads.feeding.told in
      let low : bound ≡ low_at new = given.bound ∙ sym (low_behind_more [] (feed_told feed bound) reads) in
      let none = told_none new.told (low_at new) (told ∙ low) in
      let one = told_one old.told (low_at old) (λ is. isnt (low ∙ low_still (feed_told feed bound) reads ∙ sym is)) in
      omega (arith, none, one)
  told_now (entry ∷ more) bound reads isnt given =
      let told : new.told ≡ bound = reads.feeding.told in
      let low : bound ≡ low_at new = given.bound ∙ sym (low_behind_more (entry ∷ more) (feed_told feed bound) reads) in
      let none = told_none new.told (low_at new) (told ∙ low) in
      omega (arith, none)

  -- ---- a step's items

  module _ (more : List LogEntry) (cuts : new.entries + length new.log.follower.cutter.rest ≤ old.entries + length old.log.follower.cutter.rest) where
    pub falls : (step : Step) → IsReading tells files new reading (taken ++ more) (feed_by step feed) → ((bound : ℕ) → step ≡ TellsBound bound → bound ≡ old.told → ⊥)
        → Comes tells files new reading (taken ++ more) feed step → items_at_hand new + moves_waiting (Some (item_of step)) ≤ items_at_hand old
    falls (GivesBranch branch) reads fresh comes =
        let size = length-append taken more in
        let one = before.feeding.counted in
        let two = reads.feeding.counted in
        let had = waits old.sorter reading (reverse taken) feed.branches before.feeding.sorted in
        let has = waits new.sorter reading (reverse (taken ++ more)) (feed.branches ++ branch ∷ []) reads.feeding.sorted in
        let longer = length-append feed.branches (branch ∷ []) in
        let few = committed_more reading taken more in
        let told = tell_within more (feed_by (GivesBranch branch) feed) reads refl in
        omega (arith, size, one, two, had, has, longer, few, told, cuts)
    falls (TellsBound bound) reads fresh comes =
        let size = length-append taken more in
        let one = before.feeding.counted in
        let two = reads.feeding.counted in
        let had = waits old.sorter reading (reverse taken) feed.branches before.feeding.sorted in
        let has = waits new.sorter reading (reverse (taken ++ more)) feed.branches reads.feeding.sorted in
        let few = committed_more reading taken more in
        let told = told_now more bound reads (fresh bound refl) comes in
        omega (arith, size, one, two, had, has, few, told, cuts)
    falls (BytesRead count) reads fresh comes = still_falls reads
      where
        still_falls : IsReading tells files new reading (taken ++ more) feed → items_at_hand new + 0 ≤ items_at_hand old
        still_falls reads =
            let size = length-append taken more in
            let one = before.feeding.counted in
            let two = reads.feeding.counted in
            let had = waits old.sorter reading (reverse taken) feed.branches before.feeding.sorted in
            let has = waits new.sorter reading (reverse (taken ++ more)) feed.branches reads.feeding.sorted in
            let few = committed_more reading taken more in
            let told = tell_within more feed reads refl in
            omega (arith, size, one, two, had, has, few, told, cuts)
    falls LastStep reads fresh comes = stays_within reads
      where
        stays_within : IsReading tells files new reading (taken ++ more) feed → items_at_hand new + 0 ≤ items_at_hand old
        stays_within reads =
            let size = length-append taken more in
            let one = before.feeding.counted in
            let two = reads.feeding.counted in
            let had = waits old.sorter reading (reverse taken) feed.branches before.feeding.sorted in
            let has = waits new.sorter reading (reverse (taken ++ more)) feed.branches reads.feeding.sorted in
            let few = committed_more reading taken more in
            let told = tell_within more feed reads refl in
            omega (arith, size, one, two, had, has, few, told, cuts)

    -- where nothing is given
    pub falls_none : IsReading tells files new reading (taken ++ more) feed → items_at_hand new ≤ items_at_hand old
    falls_none reads =
        let size = length-append taken more in
        let one = before.feeding.counted in
        let two = reads.feeding.counted in
        let had = waits old.sorter reading (reverse taken) feed.branches before.feeding.sorted in
        let has = waits new.sorter reading (reverse (taken ++ more)) feed.branches reads.feeding.sorted in
        let few = committed_more reading taken more in
        let told = tell_within more feed reads refl in
        omega (arith, size, one, two, had, has, few, told, cuts)

-- ---- whether the reading goes on

pub over_zero : (end : NodeEnd) → (end ≡ Open → ⊥) → one_if (is_going end) ≡ 0
over_zero Open over = absurd (over refl)
over_zero Whole over = refl
over_zero ReadFailed over = refl
over_zero NoMemory over = refl
over_zero (Faulty place fault) over = refl

pub going_one : (end : NodeEnd) → end ≡ Open → one_if (is_going end) ≡ 1
going_one end is = ap (λ (e : NodeEnd). one_if (is_going e)) is

pub going_falls : (old new : NodeEnd) → ((old ≡ Open → ⊥) → new ≡ old) → one_if (is_going new) ≤ one_if (is_going old)
going_falls Open new stays = at_most_one (is_going new)
going_falls Whole new stays = let e = ap (λ (n : NodeEnd). one_if (is_going n)) (stays (λ is. cc)) in omega (arith, e)
going_falls ReadFailed new stays = let e = ap (λ (n : NodeEnd). one_if (is_going n)) (stays (λ is. cc)) in omega (arith, e)
going_falls NoMemory new stays = let e = ap (λ (n : NodeEnd). one_if (is_going n)) (stays (λ is. cc)) in omega (arith, e)
going_falls (Faulty place fault) new stays = let e = ap (λ (n : NodeEnd). one_if (is_going n)) (stays (λ is. cc)) in omega (arith, e)

-- ---- a turn's work

times_more : (weight a b : ℕ) → a + 1 ≤ b → (weight + 1) * a + (weight + 1) ≤ (weight + 1) * b
times_more weight a b less = column_fits (weight + 1) a (weight + 1) b (omega (arith, less)) (le_refl (weight + 1))

pub work_falls : (old new : NodeState) (weight : ℕ) → moves_left new + 1 ≤ moves_left old → node_work new weight + weight * 1 + 1 ≤ node_work old weight
work_falls old new weight less = let more = times_more weight (moves_left new) (moves_left old) less in omega (arith, more)

pub work_stays : (old new : NodeState) (weight : ℕ) → moves_left new ≤ moves_left old → node_work new weight ≤ node_work old weight
work_stays old new weight less = mul-le (weight + 1) (moves_left new) (weight + 1) (moves_left old) (le_refl (weight + 1)) less

pub moves_falls : (old new : NodeState) (weight : ℕ) → moves_left new + 1 ≤ moves_left old → node_work new weight + 1 ≤ node_work old weight
moves_falls old new weight less = let more = times_more weight (moves_left new) (moves_left old) less in omega (arith, more)
