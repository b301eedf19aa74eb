-- There are no more transactions than branches.
use Rattle.std.proofs.Common.{◌≡◌, ℕ, zero, suc, ◌+◌, ◌≤◌, ◌<◌, Bool, true, false, not, List, [], ◌∷◌, ◌++◌, length, length-append, filter, sym, ap, refl, ◌∙◌, arith, le_refl, if◌then◌else◌}
use Rattle.std.specs.List.{fold}
use Rattle.std.specs.declared.cmp.Ordering.{Ordering}
use Rattle.std.specs.declared.cmp.Ordering.TheVariants.{Less, Equal, Greater}
use Rattle.cdc_base.specs.declared.key.Key.{Key}
use Rattle.cdc_base.specs.Key.{key_order}
use Rattle.cdc_model.specs.Records.{CommittedBranch, Transaction}
use Rattle.cdc_model.specs.Branch.{is_settled}
use Rattle.cdc_model.specs.Transaction.{put, placed_key, add_settled, settled_keys}
use Rattle.cdc_model.specs.SettledOrder.{transactions_under}
use Rattle.cdc_model.specs.Feed.{NodeFeed, least_bound, fed_branches, merged_transactions}
use Rattle.cdc_merger.specs.Feeding.{changed_at, with_branch, with_bound, is_behind}
use Rattle.cdc_merger.specs.Merging.{Merging, Merges, last_key, no_feeds}
use Rattle.cdc_merger.proofs.Following.{up_to, many_transactions}

-- a list with one key put has one more at most
put_long : (key : Key) (keys : List Key) → length (put key keys) ≤ length keys + 1
put_long key [] = omega arith
put_long key (first ∷ rest) = by (put_long key rest) (key_order key first)
  where
    by : length (put key rest) ≤ length rest + 1 → (o : Ordering) → length (placed_key o key first rest (put key rest)) ≤ length (first ∷ rest) + 1
    by deeper Less = omega arith
    by deeper Equal = omega arith
    by deeper Greater = omega (arith, deeper)

add_long : (mark : ℕ) (keys : List Key) (branch : CommittedBranch) (settled : Bool) → length (if settled then put branch.key keys else keys) ≤ length keys + 1
add_long mark keys branch true = put_long branch.key keys
add_long mark keys branch false = omega arith

fold_long : (mark : ℕ) (keys : List Key) (branches : List CommittedBranch) → length (fold (add_settled mark) keys branches) ≤ length keys + length branches
fold_long mark keys [] = omega arith
fold_long mark keys (branch ∷ branches) =
    let deeper = fold_long mark (add_settled mark keys branch) branches in
    let one : length (add_settled mark keys branch) ≤ length keys + 1 = add_long mark keys branch (is_settled mark branch.key) in
    omega (arith, deeper, one)

pub few_transactions : (count mark : ℕ) (branches : List CommittedBranch) → length (transactions_under count mark branches) ≤ length branches
few_transactions count mark branches =
    let many = many_transactions branches (count + 1) (settled_keys mark branches) in
    let few = fold_long mark [] branches in
    omega (arith, many, few)

-- a filter that takes no element away
filter_few : {X : Type 0} (test : X → Bool) (xs : List X) → length (filter test xs) ≤ length xs
filter_few test [] = omega arith
filter_few test (x ∷ xs) = by (test x) (filter_few test xs)
  where
    by : (passes : Bool) → length (filter test xs) ≤ length xs → length (if passes then x ∷ filter test xs else filter test xs) ≤ length (x ∷ xs)
    by true h = omega (arith, h)
    by false h = omega (arith, h)

filter_all : {X : Type 0} (test : X → Bool) (xs : List X) → length xs ≤ length (filter test xs) → filter test xs ≡ xs
filter_all test [] all = refl
filter_all test (x ∷ xs) all = by (λ many. filter_all test xs many) (test x) all
  where
    by : (length xs ≤ length (filter test xs) → filter test xs ≡ xs) → (passes : Bool) → length (x ∷ xs) ≤ length (if passes then x ∷ filter test xs else filter test xs) → (if passes then x ∷ filter test xs else filter test xs) ≡ x ∷ xs
    by deeper true h = ap (λ list. x ∷ list) (deeper (omega (arith, h)))
    by deeper false h = absurd (let few = filter_few test xs in omega (arith, h, few))

module _ (merger : Merging) (count : ℕ) (last : Key) (feeds : List NodeFeed) (gave : List Transaction) (m : Merges merger count last feeds gave) where
  abbrev ups : List CommittedBranch
  ups = up_to (last_key last gave) (fed_branches feeds)

  gave_few : length gave ≤ length ups
  gave_few =
      let is = ap length (m.gives (least_bound feeds) (le_refl (least_bound feeds))) in
      let few = few_transactions count (least_bound feeds) ups in
      omega (arith, is, few)

  pub gave_within : length gave ≤ length (fed_branches feeds)
  gave_within = let few = gave_few in let less = filter_few (λ (branch : CommittedBranch). not (is_behind (last_key last gave) branch)) (fed_branches feeds) in omega (arith, few, less)

  -- where there are as many, all was given
  pub gave_all : length (fed_branches feeds) ≤ length gave → gave ≡ merged_transactions count feeds
  gave_all many =
      let few = gave_few in
      let all : ups ≡ fed_branches feeds = filter_all (λ (branch : CommittedBranch). not (is_behind (last_key last gave) branch)) (fed_branches feeds) (omega (arith, few, many)) in
      sym (m.gives (least_bound feeds) (le_refl (least_bound feeds))) ∙ ap (transactions_under count (least_bound feeds)) all

-- ---- what was fed

pub nothing_fed : (nodes : ℕ) → length (fed_branches (no_feeds nodes)) ≡ 0
nothing_fed zero = refl
nothing_fed (suc nodes) = nothing_fed nodes

pub one_fed_at : (branch : CommittedBranch) (index : ℕ) (feeds : List NodeFeed) → index < length feeds → length (fed_branches (changed_at (with_branch branch) index feeds)) ≡ length (fed_branches feeds) + 1
one_fed_at branch index [] within = absurd (omega (arith, within))
one_fed_at branch zero (feed ∷ feeds) within =
    let more = length-append (feed.branches ++ branch ∷ []) (fed_branches feeds) in
    let one = length-append feed.branches (branch ∷ []) in
    let all = length-append feed.branches (fed_branches feeds) in
    omega (arith, more, one, all)
one_fed_at branch (suc index) (feed ∷ feeds) within =
    let deeper = one_fed_at branch index feeds (omega (arith, within)) in
    let more = length-append feed.branches (fed_branches (changed_at (with_branch branch) index feeds)) in
    let all = length-append feed.branches (fed_branches feeds) in
    omega (arith, deeper, more, all)

pub none_fed_at : (bound index : ℕ) (feeds : List NodeFeed) → fed_branches (changed_at (with_bound bound) index feeds) ≡ fed_branches feeds
none_fed_at bound index [] = refl
none_fed_at bound zero (feed ∷ feeds) = refl
none_fed_at bound (suc index) (feed ∷ feeds) = ap (λ (list : List CommittedBranch). feed.branches ++ list) (none_fed_at bound index feeds)

pub feeds_many : (nodes : ℕ) → length (no_feeds nodes) ≡ nodes
feeds_many zero = refl
feeds_many (suc nodes) = ap (λ (n : ℕ). suc n) (feeds_many nodes)
