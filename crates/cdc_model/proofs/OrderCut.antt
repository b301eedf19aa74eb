-- The global order up to its first oversized transaction.
use Rattle.std.proofs.Common.{◌≡◌, ℕ, zero, suc, ◌+◌, ◌^◌, Bool, true, false, not, cond, List, [], ◌∷◌, map, find, length, take, Option, Some, None, Contains, inl, inr, ap, sym, refl, subst, ◌∙◌, arith}
use Rattle.std.proofs.lemmas.Bool.{ltb-true, ltb-false}
use Rattle.std.specs.List.{before_first, position_or_len}
use Rattle.std.specs.List.Sorted.{IsStrictlySortedBy}
use Rattle.std.specs.declared.cmp.Ordering.TheVariants.{Less}
use Rattle.cdc_base.specs.declared.key.Key.{Key}
use Rattle.cdc_base.specs.Key.{key_order}
use Rattle.cdc_model.specs.Records.{CommittedBranch, Transaction}
use Rattle.cdc_model.specs.Print.{printed_length}
use Rattle.cdc_model.specs.Transaction.{IsBelow, AreTransactionsOf, numbers_from, ordered_transactions, logs_low_water_mark, all_branches, is_oversized, SettledIsExact, SettledFit}
use Rattle.cdc_model.proofs.Members.{contains_first, contains_later, contains_none, contains_cases}
use Rattle.cdc_model.proofs.KeyList.{IsBelowAll, not_below_itself, not_both_below, below_member}
use Rattle.cdc_model.proofs.GlobalOrder.{keys_in, order_is_exact}

-- ---- a list before its first element that passes a test

pub first_passes : {X : Type 0} (test : X → Bool) (x : X) (xs : List X) → test x ≡ true → before_first test (x ∷ xs) ≡ []
first_passes test x xs is = ap (λ (b : Bool). take (cond (not b) (1 + position_or_len test xs) 0) (x ∷ xs)) is

pub first_fails : {X : Type 0} (test : X → Bool) (x : X) (xs : List X) → test x ≡ false → before_first test (x ∷ xs) ≡ x ∷ before_first test xs
first_fails test x xs is =
    ap (λ (b : Bool). take (cond (not b) (1 + position_or_len test xs) 0) (x ∷ xs)) is
    ∙ ap (λ (count : ℕ). take count (x ∷ xs)) (let next : 1 + position_or_len test xs ≡ suc (position_or_len test xs) = omega arith in next)

pub found_at : {X : Type 0} (test : X → Bool) (x : X) (xs : List X) → test x ≡ true → find test (x ∷ xs) ≡ Some x
found_at test x xs is = ap (λ (b : Bool). cond b (Some x) (find test xs)) is

pub found_later : {X : Type 0} (test : X → Bool) (x : X) (xs : List X) → test x ≡ false → find test (x ∷ xs) ≡ find test xs
found_later test x xs is = ap (λ (b : Bool). cond b (Some x) (find test xs)) is

-- ---- what the first transactions keep

pub contains_taken : {X : Type 0} (count : ℕ) (xs : List X) (x : X) → Contains (take count xs) x → Contains xs x
contains_taken zero xs x within = absurd (contains_none x within)
contains_taken (suc count) [] x within = within
contains_taken (suc count) (first ∷ xs) x within =
    elim (contains_cases first (take count xs) x within) [
      | inl is ↦ subst (Contains (first ∷ xs)) is (contains_first first xs)
      | inr later ↦ contains_later first xs x (contains_taken count xs x later)
    ]

pub below_taken : (count : ℕ) (key : Key) (txns : List Transaction) → IsBelowAll key (keys_in txns) → IsBelowAll key (keys_in (take count txns))
below_taken zero key txns all = tt
below_taken (suc count) key [] all = tt
below_taken (suc count) key (txn ∷ txns) (below, all) = (below, below_taken count key txns all)

pub sorted_taken : (count : ℕ) (txns : List Transaction) → IsStrictlySortedBy key_order (keys_in txns) → IsStrictlySortedBy key_order (keys_in (take count txns))
unfolding IsStrictlySortedBy
sorted_taken zero txns sorted = tt
sorted_taken (suc count) [] sorted = tt
sorted_taken (suc count) (txn ∷ txns) (all, sorted) = (below_taken count txn.key txns all, sorted_taken count txns sorted)

pub numbered_taken : (count first : ℕ) (txns : List Transaction) → map (λ (txn : Transaction). txn.number) txns ≡ numbers_from first (length txns)
    → map (λ (txn : Transaction). txn.number) (take count txns) ≡ numbers_from first (length (take count txns))
numbered_taken zero first txns is = refl
numbered_taken (suc count) first [] is = refl
numbered_taken (suc count) first (txn ∷ txns) is =
    let number : txn.number ≡ first = cc in
    let behind = numbered_taken count (first + 1) txns (cc) in
    cc

-- ---- the keys below the first transaction that passes a test

pub below_end_at : (passes : Bool) (key : Key) (txn : Transaction) (end : Option Transaction) → key_order key txn.key ≡ Less
    → IsBelow end key → IsBelow (cond passes (Some txn) end) key
below_end_at true key txn end below behind = below
below_end_at false key txn end below behind = behind

pub below_end : (test : Transaction → Bool) (key : Key) (txns : List Transaction) → IsBelowAll key (keys_in txns) → IsBelow (find test txns) key
below_end test key [] all = tt
below_end test key (txn ∷ txns) (below, all) = below_end_at (test txn) key txn (find test txns) below (below_end test key txns all)

-- the keys of some transactions that are below one at which they end
abbrev IsKeyBelow : List Transaction → Option Transaction → Key → Type 0
IsKeyBelow txns end key = Contains (keys_in txns) key × IsBelow end key

pub before_at : (test : Transaction → Bool) (txn : Transaction) (txns : List Transaction) (key : Key) (passes : Bool) → test txn ≡ passes
    → IsBelowAll txn.key (keys_in txns) → (Contains (keys_in (before_first test txns)) key → IsKeyBelow txns (find test txns) key)
    → Contains (keys_in (before_first test (txn ∷ txns))) key → IsKeyBelow (txn ∷ txns) (find test (txn ∷ txns)) key
before_at test txn txns key true is all behind within =
    absurd (contains_none key (subst (λ (list : List Transaction). Contains (keys_in list) key) (first_passes test txn txns is) within))
before_at test txn txns key false is all behind within =
    let found = subst (λ (list : List Transaction). Contains (keys_in list) key) (first_fails test txn txns is) within in
    subst (λ (end : Option Transaction). IsKeyBelow (txn ∷ txns) end key) (sym (found_later test txn txns is))
    (elim (contains_cases txn.key (keys_in (before_first test txns)) key found) [
      | inl same ↦
          subst (IsKeyBelow (txn ∷ txns) (find test txns)) same
          (contains_first txn.key (keys_in txns), below_end test txn.key txns all)
      | inr later ↦ let below = behind later in (contains_later txn.key (keys_in txns) key below.0, below.1)
    ])

pub before_is_below : (test : Transaction → Bool) (txns : List Transaction) (key : Key) → IsStrictlySortedBy key_order (keys_in txns)
    → Contains (keys_in (before_first test txns)) key → IsKeyBelow txns (find test txns) key
unfolding IsStrictlySortedBy
before_is_below test [] key sorted within = absurd (contains_none key within)
before_is_below test (txn ∷ txns) key (all, sorted) within =
    before_at test txn txns key (test txn) refl all (before_is_below test txns key sorted) within

-- the first of some ascending keys has none of them below it
pub none_below_first : (first : Key) (keys : List Key) (key : Key) → IsBelowAll first keys → Contains (first ∷ keys) key → key_order key first ≡ Less → ⊥
none_below_first first keys key all within below =
    elim (contains_cases first keys key within) [
      | inl is ↦ not_below_itself first (subst (λ k. key_order k first ≡ Less) (sym is) below)
      | inr later ↦ not_both_below first key (below_member first keys key all later) below
    ]

pub below_at : (test : Transaction → Bool) (txn : Transaction) (txns : List Transaction) (key : Key) (passes : Bool) → test txn ≡ passes
    → IsBelowAll txn.key (keys_in txns) → (IsKeyBelow txns (find test txns) key → Contains (keys_in (before_first test txns)) key)
    → IsKeyBelow (txn ∷ txns) (find test (txn ∷ txns)) key → Contains (keys_in (before_first test (txn ∷ txns))) key
below_at test txn txns key true is all behind (within, below) =
    absurd (none_below_first txn.key (keys_in txns) key all within (subst (λ (end : Option Transaction). IsBelow end key) (found_at test txn txns is) below))
below_at test txn txns key false is all behind (within, below) =
    subst (λ (list : List Transaction). Contains (keys_in list) key) (sym (first_fails test txn txns is))
    (elim (contains_cases txn.key (keys_in txns) key within) [
      | inl same ↦ subst (Contains (txn.key ∷ keys_in (before_first test txns))) same (contains_first txn.key (keys_in (before_first test txns)))
      | inr later ↦
          contains_later txn.key (keys_in (before_first test txns)) key
          (behind (later, subst (λ (end : Option Transaction). IsBelow end key) (found_later test txn txns is) below))
    ])

pub below_is_before : (test : Transaction → Bool) (txns : List Transaction) (key : Key) → IsStrictlySortedBy key_order (keys_in txns)
    → IsKeyBelow txns (find test txns) key → Contains (keys_in (before_first test txns)) key
unfolding IsStrictlySortedBy
below_is_before test [] key sorted below = below.0
below_is_before test (txn ∷ txns) key (all, sorted) below =
    below_at test txn txns key (test txn) refl all (below_is_before test txns key sorted) below

-- ---- the settled transactions

pub cut_order : (test : Transaction → Bool) (count mark : ℕ) (branches : List CommittedBranch) (txns : List Transaction)
    → AreTransactionsOf count mark branches None txns → AreTransactionsOf count mark branches (find test txns) (before_first test txns)
cut_order test count mark branches txns all = record {
  ascending = sorted_taken (position_or_len test txns) txns all.ascending;
  exact = λ key. (
    λ within.
        let below = before_is_below test txns key all.ascending within in
        let settled = (all.exact key).0 below.0 in
        record { settled = settled.settled; present = settled.present; below = below.1 },
    λ settled.
        below_is_before test txns key all.ascending
        ((all.exact key).1 record { settled = settled.settled; present = settled.present; below = tt }, settled.below),
  );
  whole = λ txn within. all.whole txn (contains_taken (position_or_len test txns) txns txn within);
  dated = λ txn within. all.dated txn (contains_taken (position_or_len test txns) txns txn within);
  numbered = numbered_taken (position_or_len test txns) (count + 1) txns all.numbered;
}

pub settled_is_exact : SettledIsExact
settled_is_exact rules count last logs =
    cut_order (is_oversized rules) count (logs_low_water_mark logs) (all_branches last logs) (ordered_transactions count last logs)
    (order_is_exact count last logs)

-- ---- their size

pub fails_before_at : {X : Type 0} (test : X → Bool) (first : X) (xs : List X) (x : X) (passes : Bool) → test first ≡ passes
    → (Contains (before_first test xs) x → test x ≡ false) → Contains (before_first test (first ∷ xs)) x → test x ≡ false
fails_before_at test first xs x true is behind within =
    absurd (contains_none x (subst (λ list. Contains list x) (first_passes test first xs is) within))
fails_before_at test first xs x false is behind within =
    elim (contains_cases first (before_first test xs) x (subst (λ list. Contains list x) (first_fails test first xs is) within)) [
      | inl same ↦ ap test (sym same) ∙ is
      | inr later ↦ behind later
    ]

pub fails_before : {X : Type 0} (test : X → Bool) (xs : List X) (x : X) → Contains (before_first test xs) x → test x ≡ false
fails_before test [] x within = absurd (contains_none x within)
fails_before test (first ∷ xs) x within = fails_before_at test first xs x (test first) refl (fails_before test xs x) within

pub found_passes_at : {X : Type 0} (test : X → Bool) (first : X) (end : Option X) (x : X) (passes : Bool) → test first ≡ passes
    → (end ≡ Some x → test x ≡ true) → cond passes (Some first) end ≡ Some x → test x ≡ true
found_passes_at test first end x true is behind found = let same : first ≡ x = cc in ap test (sym same) ∙ is
found_passes_at test first end x false is behind found = behind found

pub found_passes : {X : Type 0} (test : X → Bool) (xs : List X) (x : X) → find test xs ≡ Some x → test x ≡ true
found_passes test [] x found = absurd (cc)
found_passes test (first ∷ xs) x found = found_passes_at test first (find test xs) x (test first) refl (found_passes test xs x) found

pub settled_fit : SettledFit
settled_fit rules count last logs = record {
  fits = λ txn within.
      ltb-false (2 ^ 28) (printed_length rules txn) (fails_before (is_oversized rules) (ordered_transactions count last logs) txn within);
  above = λ txn found.
      ltb-true (2 ^ 28) (printed_length rules txn) (found_passes (is_oversized rules) (ordered_transactions count last logs) txn found);
}
