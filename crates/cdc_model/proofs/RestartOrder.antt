-- The order behind the n-th transaction, and what the logs of all nodes settle that are read from restart points.
use Rattle.std.proofs.Common.{◌≡◌, ◌⊎◌, ◌≤◌, ℕ, zero, suc, ◌+◌, inl, inr, leb, Bool, true, false, cond, ◌&&◌, List, [], ◌∷◌, ◌++◌, length, length-append, map, filter, drop, find, Contains, ap, sym, subst, refl, ◌∙◌, arith}
use Rattle.std.specs.Prelude.{slice_get}
use Rattle.std.specs.List.{AllZip, flat_map, enumerate_from, before_first}
use Rattle.std.specs.List.Sorted.{IsStrictlySortedBy}
use Rattle.std.specs.Ordering.{is_gt}
use Rattle.std.specs.declared.cmp.Ordering.{Ordering}
use Rattle.std.specs.declared.cmp.Ordering.TheVariants.{Less, Equal, Greater}
use Rattle.std.proofs.lemmas.List.{length-map}
use Rattle.std.proofs.lemmas.List.Elements.{filter-append}
use Rattle.cdc_base.specs.declared.key.Key.{Key}
use Rattle.cdc_base.specs.Key.{key_order, first_key}
use Rattle.cdc_base.proofs.KeyOrder.{key_order_total, same_key}
use Rattle.cdc_model.specs.declared.node_log.NodeLog.{NodeLog}
use Rattle.cdc_model.specs.Records.{CommittedBranch, Start, Transaction}
use Rattle.cdc_model.specs.Watermark.{low_water_mark, node_low_water_mark}
use Rattle.cdc_model.specs.Soundness.{sound_entries, reached}
use Rattle.cdc_model.specs.Branch.{Begun, is_new, new_branches}
use Rattle.cdc_model.specs.Transaction.{has_key, settled_keys, transactions_of, node_branches, all_branches, logs_low_water_mark, ordered_transactions, is_oversized, settled_transactions, key_or_first, key_at}
use Rattle.cdc_model.specs.SettledOrder.{IsFront, transactions_under}
use Rattle.cdc_model.specs.Feed.{own_branches}
use Rattle.cdc_model.specs.Growth.{LogGrows, LogsGrow}
use Rattle.cdc_model.specs.Restart.{RestartPoint, first_point, start_at, IsRestartPoint, ReadsTheRest, log_behind, AreWhole, logs_behind, RestartGivesTheRest}
use Rattle.cdc_model.proofs.Members.{contains_first, contains_later, contains_none, contains_cases}
use Rattle.cdc_model.proofs.KeyList.{IsBelowAll, above, not_below_itself, not_both_below, below_member}
use Rattle.cdc_model.proofs.SameXid.{no_test}
use Rattle.cdc_model.proofs.SettledKeys.{keys_of, settled_sorted}
use Rattle.cdc_model.proofs.GlobalOrder.{keys_in, keys_kept}
use Rattle.cdc_model.proofs.OrderCut.{first_passes, first_fails, found_later}
use Rattle.cdc_model.proofs.Fronts.{same_keys}
use Rattle.cdc_model.proofs.OwnBranches.{has_is, settled_member, member_settled, same_transactions}
use Rattle.cdc_model.proofs.OutputGrowth.{settled_order_grows}
use Rattle.cdc_model.proofs.RestartRest.{restart_reads_the_rest}

-- ---- branches above a key

abbrev is_above : Key → CommittedBranch → Bool
is_above last branch = is_gt (key_order branch.key last)

abbrev above_last : Key → List CommittedBranch → List CommittedBranch
above_last last branches = filter (is_above last) branches

pub greater : (a b : Key) → is_gt (key_order a b) ≡ true → key_order b a ≡ Less
greater a b e = by (key_order a b) refl e
  where
    by : (o : Ordering) → key_order a b ≡ o → is_gt o ≡ true → key_order b a ≡ Less
    by Less is h = absurd (no_test h)
    by Equal is h = absurd (no_test h)
    by Greater is h = above a b is

pub is_greater : (a b : Key) → key_order b a ≡ Less → is_gt (key_order a b) ≡ true
is_greater a b e = by (key_order a b) refl
  where
    by : (o : Ordering) → key_order a b ≡ o → is_gt o ≡ true
    by Less is = absurd (not_both_below a b is e)
    by Equal is = absurd (not_below_itself b (subst (λ (k : Key). key_order b k ≡ Less) (same_key a b is) e))
    by Greater is = refl

abbrev At : Key → Key → Type 0
At low key = (low ≡ key) ⊎ (key_order low key ≡ Less)

-- what is above a key is above each lesser one
pub above_both : (low key other : Key) → At low key → is_gt (key_order other key) ≡ true → is_gt (key_order other low) ≡ true
above_both low key other (inl is) e = subst (λ (k : Key). is_gt (key_order other k) ≡ true) (sym is) e
above_both low key other (inr less) e = is_greater other low (key_order_total.trans low key other less (greater other key e))

-- ---- new branches, by their keys

-- those above a key are those above a lesser one whose keys are above it
pub new_above : (low key : Key) (start : Start) (begun : List Begun) → At low key → new_branches key start begun ≡ above_last key (new_branches low start begun)
new_above low key start [] at = refl
new_above low key start (b ∷ begun) at =
    by (leb start.entry b.0) (is_gt (key_order b.1.key key)) (is_gt (key_order b.1.key low)) refl (above_both low key b.1.key at) (new_above low key start begun at)
  where
    taken : Bool → List CommittedBranch → List CommittedBranch
    taken test rest = cond test (b.1 ∷ rest) rest

    first : (last : Key) (here over : Bool) → map (λ (x : Begun). x.1) (cond (here && over) (b ∷ filter (is_new last start) begun) (filter (is_new last start) begun))
        ≡ cond (here && over) (b.1 ∷ new_branches last start begun) (new_branches last start begun)
    first last true true = refl
    first last true false = refl
    first last false true = refl
    first last false false = refl

    by : (here over under : Bool) → is_gt (key_order b.1.key key) ≡ over → (over ≡ true → under ≡ true)
        → new_branches key start begun ≡ above_last key (new_branches low start begun)
        → map (λ (x : Begun). x.1) (cond (here && over) (b ∷ filter (is_new key start) begun) (filter (is_new key start) begun))
        ≡ above_last key (map (λ (x : Begun). x.1) (cond (here && under) (b ∷ filter (is_new low start) begun) (filter (is_new low start) begun)))
    by false over under is more later = first key false over ∙ later ∙ sym (ap (above_last key) (first low false under))
    by true true true is more later =
        ap (λ (list : List CommittedBranch). b.1 ∷ list) later
        ∙ sym (ap (λ (t : Bool). cond t (b.1 ∷ above_last key (new_branches low start begun)) (above_last key (new_branches low start begun))) is)
    by true true false is more later = absurd (no_test (more refl))
    by true false true is more later =
        later ∙ sym (ap (λ (t : Bool). cond t (b.1 ∷ above_last key (new_branches low start begun)) (above_last key (new_branches low start begun))) is)
    by true false false is more later = later

pub all_above : (low key : Key) (number : ℕ) (logs : List NodeLog) → At low key
    → flat_map (node_branches key) (enumerate_from number logs) ≡ above_last key (flat_map (node_branches low) (enumerate_from number logs))
all_above low key number [] at = refl
all_above low key number (log ∷ logs) at =
    ap (λ (list : List CommittedBranch). list ++ flat_map (node_branches key) (enumerate_from (number + 1) logs)) (new_above low key log.start _ at)
    ∙ ap (λ (list : List CommittedBranch). above_last key (node_branches low (number, log)) ++ list) (all_above low key (number + 1) logs at)
    ∙ sym (filter-append (is_above key) (node_branches low (number, log)) (flat_map (node_branches low) (enumerate_from (number + 1) logs)))

-- ---- members above a key

pub above_member : (last : Key) (branches : List CommittedBranch) (key : Key) → Contains (keys_of (above_last last branches)) key
    → Contains (keys_of branches) key × (is_gt (key_order key last) ≡ true)
above_member last [] key within = absurd (contains_none key within)
above_member last (branch ∷ branches) key within = by (is_above last branch) refl within (above_member last branches key)
  where
    by : (test : Bool) → is_above last branch ≡ test
        → Contains (keys_of (cond test (branch ∷ above_last last branches) (above_last last branches))) key
        → (Contains (keys_of (above_last last branches)) key → Contains (keys_of branches) key × (is_gt (key_order key last) ≡ true))
        → Contains (keys_of (branch ∷ branches)) key × (is_gt (key_order key last) ≡ true)
    by true is member later =
        elim (contains_cases branch.key (keys_of (above_last last branches)) key member) [
          | inl same ↦ (
            subst (Contains (branch.key ∷ keys_of branches)) same (contains_first branch.key (keys_of branches)),
            subst (λ (k : Key). is_gt (key_order k last) ≡ true) same is,
          )
          | inr further ↦ let found = later further in (contains_later branch.key (keys_of branches) key found.0, found.1)
        ]
    by false is member later = let found = later member in (contains_later branch.key (keys_of branches) key found.0, found.1)

pub member_above : (last : Key) (branches : List CommittedBranch) (key : Key) → Contains (keys_of branches) key → is_gt (key_order key last) ≡ true
    → Contains (keys_of (above_last last branches)) key
member_above last [] key within over = absurd (contains_none key within)
member_above last (branch ∷ branches) key within over =
    by (is_above last branch) refl (contains_cases branch.key (keys_of branches) key within) (λ member. member_above last branches key member over)
  where
    by : (test : Bool) → is_above last branch ≡ test → (branch.key ≡ key) ⊎ Contains (keys_of branches) key
        → (Contains (keys_of branches) key → Contains (keys_of (above_last last branches)) key)
        → Contains (keys_of (cond test (branch ∷ above_last last branches) (above_last last branches))) key
    by true is (inl same) later = subst (Contains (branch.key ∷ keys_of (above_last last branches))) same (contains_first branch.key (keys_of (above_last last branches)))
    by true is (inr member) later = contains_later branch.key (keys_of (above_last last branches)) key (later member)
    by false is (inl same) later = absurd (no_test (sym is ∙ subst (λ (k : Key). is_gt (key_order k last) ≡ true) (sym same) over))
    by false is (inr member) later = later member

-- the branches of a key above are there
pub own_above : (last key : Key) (branches : List CommittedBranch) → is_gt (key_order key last) ≡ true → own_branches (above_last last branches) key ≡ own_branches branches key
own_above last key [] over = refl
own_above last key (branch ∷ branches) over = by (is_above last branch) (has_key key branch) refl refl (own_above last key branches over)
  where
    by : (test has : Bool) → is_above last branch ≡ test → has_key key branch ≡ has → own_branches (above_last last branches) key ≡ own_branches branches key
        → own_branches (cond test (branch ∷ above_last last branches) (above_last last branches)) key ≡ cond has (branch ∷ own_branches branches key) (own_branches branches key)
    by true true is holds later =
        ap (λ (t : Bool). cond t (branch ∷ own_branches (above_last last branches) key) (own_branches (above_last last branches) key)) holds
        ∙ ap (λ (list : List CommittedBranch). branch ∷ list) later
    by true false is holds later =
        ap (λ (t : Bool). cond t (branch ∷ own_branches (above_last last branches) key) (own_branches (above_last last branches) key)) holds ∙ later
    by false true is holds later =
        absurd (no_test (sym is ∙ subst (λ (k : Key). is_gt (key_order k last) ≡ true) (has_is key branch holds) over))
    by false false is holds later = later

-- ---- the keys behind the n-th

-- the key of the n-th, and the first one before all
abbrev nth_or : Key → ℕ → List Key → Key
nth_or low zero keys = low
nth_or low (suc count) [] = low
nth_or low (suc count) (key ∷ keys) = nth_or key count keys

pub sorted_dropped : (count : ℕ) (keys : List Key) → IsStrictlySortedBy key_order keys → IsStrictlySortedBy key_order (drop count keys)
unfolding IsStrictlySortedBy
sorted_dropped zero keys sorted = sorted
sorted_dropped (suc count) [] sorted = tt
sorted_dropped (suc count) (key ∷ keys) (below, sorted) = sorted_dropped count keys sorted

-- a key behind the n-th is above it
pub behind_is_above : (low : Key) (count : ℕ) (keys : List Key) (key : Key) → IsBelowAll low keys → IsStrictlySortedBy key_order keys → count ≤ length keys
    → Contains (drop count keys) key → Contains keys key × (key_order (nth_or low count keys) key ≡ Less)
unfolding IsStrictlySortedBy
behind_is_above low zero keys key under sorted h within = (within, below_member low keys key under within)
behind_is_above low (suc count) [] key under sorted h within = absurd (omega (arith, h))
behind_is_above low (suc count) (first ∷ keys) key under (below, sorted) h within =
    let found = behind_is_above first count keys key below sorted (omega (arith, h)) within in
    (contains_later first keys key found.0, found.1)

-- the n-th key is the first one or above it
pub at_least : (low : Key) (count : ℕ) (keys : List Key) → IsBelowAll low keys → IsStrictlySortedBy key_order keys → At low (nth_or low count keys)
unfolding IsStrictlySortedBy
at_least low zero keys under sorted = inl refl
at_least low (suc count) [] under sorted = inl refl
at_least low (suc count) (next ∷ keys) (here, under) (below, sorted) =
    elim (at_least next count keys below sorted) [
      | inl is ↦ inr (subst (λ (k : Key). key_order low k ≡ Less) is here)
      | inr less ↦ inr (key_order_total.trans low next (nth_or next count keys) here less)
    ]

pub not_above : (low : Key) (count : ℕ) (keys : List Key) → IsBelowAll low keys → IsStrictlySortedBy key_order keys → key_order (nth_or low count keys) low ≡ Less → ⊥
not_above low count keys under sorted over =
    elim (at_least low count keys under sorted) [
      | inl is ↦ not_below_itself low (subst (λ (k : Key). key_order k low ≡ Less) (sym is) over)
      | inr less ↦ not_both_below low (nth_or low count keys) less over
    ]

-- and one that is above it stands behind it
pub above_is_behind : (low : Key) (count : ℕ) (keys : List Key) (key : Key) → IsBelowAll low keys → IsStrictlySortedBy key_order keys → count ≤ length keys
    → Contains keys key → key_order (nth_or low count keys) key ≡ Less → Contains (drop count keys) key
unfolding IsStrictlySortedBy
above_is_behind low zero keys key under sorted h within over = within
above_is_behind low (suc count) [] key under sorted h within over = absurd (omega (arith, h))
above_is_behind low (suc count) (first ∷ keys) key (here, under) (below, sorted) h within over =
    elim (contains_cases first keys key within) [
      | inl is ↦ absurd (not_above first count keys below sorted (subst (λ (k : Key). key_order (nth_or first count keys) k ≡ Less) (sym is) over))
      | inr later ↦ above_is_behind first count keys key below sorted (omega (arith, h)) later over
    ]

-- ---- the order behind the n-th key

pub below_from : (low : Key) (keys : List Key) → ((key : Key) → Contains keys key → key_order low key ≡ Less) → IsBelowAll low keys
below_from low [] each = tt
below_from low (key ∷ keys) each = (each key (contains_first key keys), below_from low keys (λ k within. each k (contains_later key keys k within)))

pub transactions_dropped : (branches : List CommittedBranch) (number count : ℕ) (keys : List Key)
    → drop count (transactions_of branches number keys) ≡ transactions_of branches (number + count) (drop count keys)
transactions_dropped branches number zero keys = ap (λ (n : ℕ). transactions_of branches n keys) (omega arith)
transactions_dropped branches number (suc count) [] = refl
transactions_dropped branches number (suc count) (key ∷ keys) =
    transactions_dropped branches (number + 1) count keys ∙ ap (λ (n : ℕ). transactions_of branches n (drop count keys)) (omega arith)

module _ (low : Key) (mark : ℕ) (branches : List CommittedBranch) (all : (key : Key) → Contains (keys_of branches) key → key_order low key ≡ Less) where
  abbrev settled : List Key
  settled = settled_keys mark branches

  under_all : IsBelowAll low settled
  under_all = below_from low settled (λ key within. all key (settled_member mark branches key within).1)

  keys_behind : (count : ℕ) → count ≤ length settled → settled_keys mark (above_last (nth_or low count settled) branches) ≡ drop count settled
  keys_behind count h =
      let last : Key = nth_or low count settled in
      let above_them : List CommittedBranch = above_last last branches in
      same_keys (settled_keys mark above_them) (drop count settled) (settled_sorted mark above_them) (sorted_dropped count settled (settled_sorted mark branches))
      (λ key within.
      let is = settled_member mark above_them key within in
      let found = above_member last branches key is.1 in
      above_is_behind low count settled key under_all (settled_sorted mark branches) h (member_settled mark branches key is.0 found.0) (greater key last found.1))
      (λ key within.
      let found = behind_is_above low count settled key under_all (settled_sorted mark branches) h within in
      let is = settled_member mark branches key found.0 in
      member_settled mark above_them key is.0 (member_above last branches key is.1 (is_greater key last found.1)))

  order_behind : (count : ℕ) → count ≤ length settled
      → transactions_under count mark (above_last (nth_or low count settled) branches) ≡ drop count (transactions_under 0 mark branches)
  order_behind count h =
      let last : Key = nth_or low count settled in
      ap (transactions_of (above_last last branches) (count + 1)) (keys_behind count h)
      ∙ same_transactions (above_last last branches) branches (count + 1) (drop count settled)
      (λ key within. own_above last key branches (is_greater key last (behind_is_above low count settled key under_all (settled_sorted mark branches) h within).1))
      ∙ ap (λ (n : ℕ). transactions_of branches n (drop count settled)) (let n : count + 1 ≡ 0 + 1 + count = omega arith in n)
      ∙ sym (transactions_dropped branches (0 + 1) count settled)

-- ---- up to the first that passes a test

pub before_dropped : {X : Type 0} (test : X → Bool) (count : ℕ) (xs : List X) → count ≤ length (before_first test xs)
    → (before_first test (drop count xs) ≡ drop count (before_first test xs)) × (find test (drop count xs) ≡ find test xs)
before_dropped test zero xs h = (refl, refl)
before_dropped test (suc count) [] h = (refl, refl)
before_dropped {X} test (suc count) (x ∷ xs) h = by (test x) refl (before_dropped test count xs)
  where
    by : (passes : Bool) → test x ≡ passes
        → (count ≤ length (before_first test xs) → (before_first test (drop count xs) ≡ drop count (before_first test xs)) × (find test (drop count xs) ≡ find test xs))
        → (before_first test (drop count xs) ≡ drop (suc count) (before_first test (x ∷ xs))) × (find test (drop count xs) ≡ find test (x ∷ xs))
    by true is later = absurd (let none : length (before_first test (x ∷ xs)) ≡ 0 = ap length (first_passes test x xs is) in omega (arith, h, none))
    by false is later =
        let size : length (before_first test (x ∷ xs)) ≡ 1 + length (before_first test xs) = ap length (first_fails test x xs is) ∙ (let n : suc (length (before_first test xs)) ≡ 1 + length (before_first test xs) = omega arith in n) in
        let rest = later (omega (arith, h, size)) in
        (rest.0 ∙ sym (ap (drop (suc count)) (first_fails test x xs is)), rest.1 ∙ sym (found_later test x xs is))

-- ---- the key of the n-th transaction

pub nth_is : (low : Key) (count : ℕ) (txn : Transaction) (txns : List Transaction) → count ≤ length txns → key_or_first (slice_get (txn ∷ txns) count) ≡ nth_or txn.key count (keys_in txns)
nth_is low zero txn txns h = refl
nth_is low (suc count) txn [] h = absurd (omega (arith, h))
nth_is low (suc count) txn (next ∷ txns) h = nth_is low count next txns (omega (arith, h))

pub key_is_nth : (count : ℕ) (txns : List Transaction) → count ≤ length txns → key_at txns count ≡ nth_or first_key count (keys_in txns)
key_is_nth zero txns h = refl
key_is_nth (suc count) [] h = absurd (omega (arith, h))
key_is_nth (suc count) (txn ∷ txns) h = nth_is first_key count txn txns (omega (arith, h))

pub nth_of_front : (low : Key) (count : ℕ) (txns rest : List Transaction) → count ≤ length txns → nth_or low count (keys_in txns) ≡ nth_or low count (keys_in (txns ++ rest))
nth_of_front low zero txns rest h = refl
nth_of_front low (suc count) [] rest h = absurd (omega (arith, h))
nth_of_front low (suc count) (txn ∷ txns) rest h = nth_of_front txn.key count txns rest (omega (arith, h))

pub before_is_front : {X : Type 0} (test : X → Bool) (xs : List X) → IsFront (before_first test xs) xs
before_is_front test [] = record { rest = []; is = refl }
before_is_front {X} test (x ∷ xs) = by (test x) refl (before_is_front test xs)
  where
    by : (passes : Bool) → test x ≡ passes → IsFront (before_first test xs) xs → IsFront (before_first test (x ∷ xs)) (x ∷ xs)
    by true is later = subst (λ (front : List X). IsFront front (x ∷ xs)) (sym (first_passes test x xs is)) (record { rest = x ∷ xs; is = refl })
    by false is later =
        subst (λ (front : List X). IsFront front (x ∷ xs)) (sym (first_fails test x xs is))
        (record { rest = later.rest; is = ap (λ (list : List X). x ∷ list) later.is })

-- ---- the logs of all nodes

pub one_resumed : (last : Key) (node : ℕ) (old new : NodeLog) (point : RestartPoint) → old.start ≡ start_at first_point → LogGrows old new
    → IsRestartPoint last first_point node (sound_entries old.start old.entries) point → ReadsTheRest last node new (log_behind first_point point new.entries)
one_resumed last node old new point begins grows is =
    let new_begins : new.start ≡ start_at first_point = grows.same_start ∙ begins in
    let front : IsFront (sound_entries (start_at first_point) old.entries) (sound_entries (start_at first_point) new.entries) =
    subst (λ (s : Start). IsFront (sound_entries s old.entries) (sound_entries (start_at first_point) new.entries)) begins
    (subst (λ (s : Start). IsFront (sound_entries old.start old.entries) (sound_entries s new.entries)) new_begins grows.front) in
    let point_is : IsRestartPoint last first_point node (sound_entries (start_at first_point) old.entries) point =
    subst (λ (s : Start). IsRestartPoint last first_point node (sound_entries s old.entries) point) begins is in
    subst (λ (s : Start). ReadsTheRest last node (record { start = s; entries = new.entries }) (log_behind first_point point new.entries)) (sym new_begins)
    (restart_reads_the_rest last first_point point node old.entries new.entries (omega arith) front point_is)

-- the branches and marks of all nodes that are read from restart points
pub record ReadAlike (last : Key) (number : ℕ) (resumed news : List NodeLog) : Type 0 where
  pub branches : flat_map (node_branches last) (enumerate_from number resumed) ≡ flat_map (node_branches last) (enumerate_from number news)
  pub marks : map (λ log. node_low_water_mark (reached log)) resumed ≡ map (λ log. node_low_water_mark (reached log)) news

abbrev PointsFrom : Key → ℕ → List NodeLog → List RestartPoint → Type 0
PointsFrom last number logs points =
    AllZip (λ (node : ℕ × NodeLog) (point : RestartPoint). IsRestartPoint last first_point node.0 (sound_entries node.1.start node.1.entries) point)
    (enumerate_from number logs) points

pub read_alike : (last : Key) (number : ℕ) (olds news : List NodeLog) (points : List RestartPoint) → AreWhole olds → LogsGrow olds news → PointsFrom last number olds points
    → ReadAlike last number (logs_behind points news) news
read_alike last number [] [] [] begin grow are = record { branches = refl; marks = refl }
read_alike last number [] [] (point ∷ points) begin grow are = absurd are
read_alike last number [] (new ∷ news) points begin grow are = absurd grow
read_alike last number (old ∷ olds) [] points begin grow are = absurd grow
read_alike last number (old ∷ olds) (new ∷ news) [] begin grow are = absurd are
read_alike last number (old ∷ olds) (new ∷ news) (point ∷ points) (begins, begin) (grows, grow) (is, are) =
    let here = one_resumed last number old new point begins grows is in
    let rest = read_alike last (number + 1) olds news points begin grow are in
    let resumed : NodeLog = log_behind first_point point new.entries in
    record {
      branches =
          ap (λ (list : List CommittedBranch). list ++ flat_map (node_branches last) (enumerate_from (number + 1) (logs_behind points news))) here.branches
          ∙ ap (λ (list : List CommittedBranch). node_branches last (number, new) ++ list) rest.branches;
      marks =
          ap (λ (n : ℕ). n ∷ map (λ log. node_low_water_mark (reached log)) (logs_behind points news)) here.bound
          ∙ ap (λ (list : List ℕ). node_low_water_mark (reached new) ∷ list) rest.marks;
    }

pub restart_gives_the_rest : RestartGivesTheRest
restart_gives_the_rest rules count olds news points begin grow h are =
    let test = is_oversized rules in
    let old = settled_transactions rules 0 first_key olds in
    let last : Key = key_at old count in
    let resumed = logs_behind points news in
    let mark = logs_low_water_mark news in
    let branches = all_branches first_key news in
    let all = ordered_transactions 0 first_key news in
    let grown = settled_order_grows rules 0 first_key olds news grow in
    let new = settled_transactions rules 0 first_key news in
    let in_all = before_is_front test all in
    let keys = settled_keys mark branches in
    let kept : keys_in all ≡ keys = keys_kept branches (0 + 1) keys in
    let few : count ≤ length new = omega (arith, h, ap length grown.settled.is, length-append old grown.settled.rest) in
    let fewer : count ≤ length all = omega (arith, few, ap length in_all.is, length-append new in_all.rest) in
    let number : count ≤ length keys = subst (λ (n : ℕ). count ≤ n) (sym (length-map all (λ (txn : Transaction). txn.key)) ∙ ap length kept) fewer in
    let last_is : last ≡ nth_or first_key count keys =
    key_is_nth count old h
    ∙ nth_of_front first_key count old grown.settled.rest h
    ∙ ap (λ (list : List Transaction). nth_or first_key count (keys_in list)) (sym grown.settled.is)
    ∙ nth_of_front first_key count new in_all.rest few
    ∙ ap (λ (list : List Transaction). nth_or first_key count (keys_in list)) (sym in_all.is)
    ∙ ap (nth_or first_key count) kept in
    let above_first : (key : Key) → Contains (keys_of branches) key → key_order first_key key ≡ Less =
    λ key within.
    greater key first_key
    (above_member first_key branches key (subst (λ (list : List CommittedBranch). Contains (keys_of list) key) (all_above first_key first_key 1 news (inl refl)) within)).1 in
    let at : At first_key last =
    subst (At first_key) (sym last_is) (at_least first_key count keys (under_all first_key mark branches above_first) (settled_sorted mark branches)) in
    let alike = read_alike last 1 olds news points begin grow are in
    let marks : logs_low_water_mark resumed ≡ mark = ap low_water_mark alike.marks in
    let ordered : ordered_transactions count last resumed ≡ drop count all =
    ap (λ (list : List CommittedBranch). transactions_under count (logs_low_water_mark resumed) list) (alike.branches ∙ all_above first_key last 1 news at)
    ∙ ap (λ (n : ℕ). transactions_under count n (above_last last branches)) marks
    ∙ ap (λ (k : Key). transactions_under count mark (above_last k branches)) last_is
    ∙ order_behind first_key mark branches above_first count number in
    let ends = before_dropped test count all few in
    record {
      bound = marks;
      ordered = ordered;
      settled = ap (before_first test) ordered ∙ ends.0;
      oversized = ap (find test) ordered ∙ ends.1;
    }
