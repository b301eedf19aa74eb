-- The newest branch stands behind those of its key.
use Rattle.std.proofs.Common.{◌≡◌, ◌<◌, ℕ, cond, List, [], ◌∷◌, map, ap, refl, ◌∙◌, arith}
use Rattle.std.specs.List.{AllByRecursion}
use Rattle.std.specs.Ordering.{nat_cmp, on, is_lt, match_ordering, ordering_then}
use Rattle.std.specs.List.Sorted.{IsStrictlySortedBy}
use Rattle.std.specs.BTreeSet.{insert_key}
use Rattle.std.specs.declared.cmp.Ordering.{Ordering}
use Rattle.std.specs.declared.cmp.Ordering.TheVariants.{Less, Equal, Greater}
use Rattle.std.proofs.lemmas.Bool.Decides.{nat_tests}
use Rattle.cdc_base.specs.Key.{key_order}
use Rattle.cdc_model.specs.Records.{CommittedBranch}
use Rattle.cdc_waiting.specs.declared.ranked_branch.RankedBranch.{RankedBranch}
use Rattle.cdc_waiting.specs.Waiting.{wait_order, wait_with, wait_behind, NewestStandsBehind}

later_number : (a b : ℕ) → a < b → nat_cmp b a ≡ Greater
later_number a b h = grind (arith, nat_tests, h)

pub newest_stands_behind : NewestStandsBehind
newest_stands_behind [] branch all = refl
newest_stands_behind (first ∷ rest) branch (here, all) =
    by (key_order branch.key first.key) (later_number first.entry branch.entry here) (newest_stands_behind rest branch all)
  where
    by : (o : Ordering) → nat_cmp branch.entry first.entry ≡ Greater → wait_with rest branch ≡ wait_behind rest branch
        → match_ordering (ordering_then o (nat_cmp branch.entry first.entry)) (branch ∷ first ∷ rest) (first ∷ rest) (first ∷ wait_with rest branch)
        ≡ cond (is_lt o) (branch ∷ first ∷ rest) (first ∷ wait_behind rest branch)
    by Less number later = refl
    by Equal number later = ap (λ (n : Ordering). match_ordering n (branch ∷ first ∷ rest) (first ∷ rest) (first ∷ wait_with rest branch)) number ∙ ap (λ (list : List CommittedBranch). first ∷ list) later
    by Greater number later = ap (λ (list : List CommittedBranch). first ∷ list) later

-- a set's keys as the branches that they are
pub branches_inserted : (keys : List RankedBranch) (key : RankedBranch)
    → map (λ (r : RankedBranch). r.branch) (insert_key (on (λ (r : RankedBranch). r.branch) wait_order) keys key)
    ≡ wait_with (map (λ (r : RankedBranch). r.branch) keys) key.branch
branches_inserted [] key = refl
branches_inserted (first ∷ rest) key = by (wait_order key.branch first.branch) (branches_inserted rest key)
  where
    by : (o : Ordering) → map (λ (r : RankedBranch). r.branch) (insert_key (on (λ (r : RankedBranch). r.branch) wait_order) rest key) ≡ wait_with (map (λ (r : RankedBranch). r.branch) rest) key.branch
        → map (λ (r : RankedBranch). r.branch) (match_ordering o (key ∷ first ∷ rest) (first ∷ rest) (first ∷ insert_key (on (λ (r : RankedBranch). r.branch) wait_order) rest key))
        ≡ match_ordering o (key.branch ∷ first.branch ∷ map (λ (r : RankedBranch). r.branch) rest) (first.branch ∷ map (λ (r : RankedBranch). r.branch) rest)
        (first.branch ∷ wait_with (map (λ (r : RankedBranch). r.branch) rest) key.branch)
    by Less later = refl
    by Equal later = refl
    by Greater later = ap (λ (list : List CommittedBranch). first.branch ∷ list) later

all_seen : (first : RankedBranch) (rest : List RankedBranch) → AllByRecursion (λ (r : RankedBranch). wait_order first.branch r.branch ≡ Less) rest
    → AllByRecursion (λ (b : CommittedBranch). wait_order first.branch b ≡ Less) (map (λ (r : RankedBranch). r.branch) rest)
all_seen first [] all = tt
all_seen first (r ∷ rest) (here, all) = (here, all_seen first rest all)

-- they stand in order
pub branches_sorted : (keys : List RankedBranch) → IsStrictlySortedBy (on (λ (r : RankedBranch). r.branch) wait_order) keys
    → IsStrictlySortedBy wait_order (map (λ (r : RankedBranch). r.branch) keys)
unfolding IsStrictlySortedBy
branches_sorted [] sorted = tt
branches_sorted (first ∷ rest) (below, sorted) = (all_seen first rest below, branches_sorted rest sorted)
