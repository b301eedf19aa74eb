-- What a merger has given stays so where feeds grow, and grows by the next transaction.
use Rattle.std.proofs.Common.{◌≡◌, ◌≤◌, ◌<◌, ◌⊎◌, inl, inr, ℕ, zero, suc, ◌+◌, ◌-◌, ◌^◌, true, false, not, List, [], ◌∷◌, ◌++◌, length, length-append, map, filter, Contains, ap, sym, refl, subst, ◌∙◌, append-nil, Option, Some, None, le_refl, arith}
use Rattle.std.specs.Prelude.{slice_set, slice_index_or}
use Rattle.std.specs.List.{AllByRecursion}
use Rattle.std.proofs.lemmas.List.Elements.{filter-append}
use Rattle.cdc_base.specs.declared.key.Key.{Key}
use Rattle.cdc_base.specs.Key.{key_order}
use Rattle.cdc_model.specs.Records.{CommittedBranch, Transaction}
use Rattle.cdc_model.specs.Branch.{is_settled}
use Rattle.cdc_model.specs.Transaction.{transaction_of, first_seconds}
use Rattle.cdc_model.specs.SettledOrder.{transactions_under}
use Rattle.cdc_model.specs.Watermark.{low_water_mark}
use Rattle.cdc_model.specs.Feed.{NodeFeed, least_bound, fed_branches, merged_transactions}
use Rattle.cdc_model.proofs.SettledKeys.{keys_of}
use Rattle.cdc_model.proofs.OwnBranches.{settled_below, settled_on}
use Rattle.cdc_merger.specs.Feeding.{is_behind, ComeInOrder, changed_at, with_branch, with_bound, fronts_of, without_front, IsLeastHead, NoHeadIsBelow}
use Rattle.cdc_merger.specs.Merging.{Merging, Merges, IsGivenInTime, AreOrderedFeeds, IsInRound, IsRoundOf, feed_behind, fed_up_to, last_key, given_branch, told_bound, no_feeds}
use Rattle.cdc_merger.specs.Heads.{HasNoHead, HasHead, head_at, LeadsWith}
use Rattle.cdc_merger.specs.Rounds.{head_under, heads_under, CanGather, GathersKey}
use Rattle.cdc_merger.proofs.Heading.{none_alike}
use Rattle.cdc_merger.proofs.Entering.{heads_given, heads_told, unsettled_on, leads_least, NoneSettled, none_waits_settled}
use Rattle.cdc_merger.proofs.KeyTests.{less_behind}
use Rattle.cdc_merger.proofs.Heads.{kept_by, dropped_by, fronts_are_own, rests_are_behind, none_waits_below, waits_of_all, left_in_order}
use Rattle.cdc_merger.proofs.Following.{up_to, transaction_with, next_given, none_left, waiting_member}

-- a feed of these branches and this bound
abbrev feed_with : List CommittedBranch → ℕ → NodeFeed
feed_with branches bound = record { branches = branches; bound = bound }

-- a merger of this count, these nodes, and these heads of a round
abbrev pub merging : ℕ → List NodeFeed → List (Option Key) → ℕ → Merging
merging count nodes heads round = record { count = count; nodes = nodes; heads = heads; round = round }

more_count : (count : ℕ) (gave : List Transaction) (txn : Transaction) → count + length gave + 1 ≡ count + length (gave ++ txn ∷ [])
more_count count gave txn = omega (arith, length-append gave (txn ∷ []))

-- ---- one item changed

map_changed : {X Y : Type 0} (g : X → Y) (f : X → X) (h : Y → Y) → ((x : X) → g (f x) ≡ h (g x)) → (index : ℕ) (xs : List X)
    → map g (changed_at f index xs) ≡ changed_at h index (map g xs)
map_changed g f h same index [] = refl
map_changed g f h same zero (x ∷ xs) = ap (λ y. y ∷ map g xs) (same x)
map_changed g f h same (suc index) (x ∷ xs) = ap (λ ys. g x ∷ ys) (map_changed g f h same index xs)

map_unchanged : {X Y : Type 0} (g : X → Y) (f : X → X) → ((x : X) → g (f x) ≡ g x) → (index : ℕ) (xs : List X)
    → map g (changed_at f index xs) ≡ map g xs
map_unchanged g f same index [] = refl
map_unchanged g f same zero (x ∷ xs) = ap (λ y. y ∷ map g xs) (same x)
map_unchanged g f same (suc index) (x ∷ xs) = ap (λ ys. g x ∷ ys) (map_unchanged g f same index xs)

pub as_many : {X : Type 0} (f : X → X) (index : ℕ) (xs : List X) → length (changed_at f index xs) ≡ length xs
as_many f index [] = refl
as_many f zero (x ∷ xs) = refl
as_many f (suc index) (x ∷ xs) = ap (λ (n : ℕ). suc n) (as_many f index xs)

pub none_more : (nodes : ℕ) → no_feeds nodes ++ feed_with [] 0 ∷ [] ≡ no_feeds (nodes + 1)
none_more zero = refl
none_more (suc nodes) =
    let more : suc (nodes + 1) ≡ suc nodes + 1 = omega arith in
    ap (λ (list : List NodeFeed). feed_with [] 0 ∷ list) (none_more nodes) ∙ ap no_feeds more

-- an item that is put in place of one, and made of it, changes the list there
pub set_changed : {X : Type 0} (f : X → X) (index : ℕ) (xs : List X) (x y d : X) → index < length xs → x ≡ slice_index_or xs index d → y ≡ f x
    → slice_set xs index y ≡ changed_at f index xs
set_changed f index [] x y d h is made = absurd (omega arith)
set_changed f zero (first ∷ xs) x y d h is made = ap (λ z. z ∷ xs) (made ∙ ap f is)
set_changed f (suc index) (first ∷ xs) x y d h is made = ap (λ zs. first ∷ zs) (set_changed f index xs x y d (omega arith) is made)

-- ---- a branch more

behind_more : (last : Key) (branch : CommittedBranch) → is_behind last branch ≡ true → (feed : NodeFeed)
    → feed_behind last (with_branch branch feed) ≡ with_branch branch (feed_behind last feed)
behind_more last branch e feed =
    ap (λ (list : List CommittedBranch). feed_with list feed.bound)
    (filter-append (is_behind last) feed.branches (branch ∷ [])
    ∙ ap (λ (list : List CommittedBranch). filter (is_behind last) feed.branches ++ list) (kept_by (is_behind last) branch [] e))

up_to_append : (last : Key) (front back : List CommittedBranch) → up_to last (front ++ back) ≡ up_to last front ++ up_to last back
up_to_append last front back = filter-append (λ (branch : CommittedBranch). not (is_behind last branch)) front back

up_to_more : (last : Key) (branch : CommittedBranch) → is_behind last branch ≡ true → (list : List CommittedBranch) → up_to last (list ++ branch ∷ []) ≡ up_to last list
up_to_more last branch e list =
    up_to_append last list (branch ∷ [])
    ∙ ap (λ (more : List CommittedBranch). up_to last list ++ more) (dropped_by (λ (b : CommittedBranch). not (is_behind last b)) branch [] (ap not e))
    ∙ append-nil (up_to last list)

fed_more : (last : Key) (branch : CommittedBranch) → is_behind last branch ≡ true → (index : ℕ) (feeds : List NodeFeed)
    → fed_up_to last (changed_at (with_branch branch) index feeds) ≡ fed_up_to last feeds
fed_more last branch e index [] = refl
fed_more last branch e zero (feed ∷ feeds) =
    up_to_append last (feed.branches ++ branch ∷ []) (fed_branches feeds)
    ∙ ap (λ (list : List CommittedBranch). list ++ up_to last (fed_branches feeds)) (up_to_more last branch e feed.branches)
    ∙ sym (up_to_append last feed.branches (fed_branches feeds))
fed_more last branch e (suc index) (feed ∷ feeds) =
    up_to_append last feed.branches (fed_branches (changed_at (with_branch branch) index feeds))
    ∙ ap (λ (list : List CommittedBranch). up_to last feed.branches ++ list) (fed_more last branch e index feeds)
    ∙ sym (up_to_append last feed.branches (fed_branches feeds))

bound_kept : (branch : CommittedBranch) (index : ℕ) (feeds : List NodeFeed) → least_bound (changed_at (with_branch branch) index feeds) ≡ least_bound feeds
bound_kept branch index feeds =
    ap low_water_mark (map_unchanged (λ (feed : NodeFeed). feed.bound) (with_branch branch) (λ (feed : NodeFeed). refl) index feeds)

comes_behind : (last least : Key) (mark : ℕ) (branch : CommittedBranch) → (last ≡ least) ⊎ (is_settled mark last ≡ true) → is_behind least branch ≡ true
    → is_settled mark branch.key ≡ false → is_behind last branch ≡ true
comes_behind last least mark branch (inl same) above early = subst (λ (k : Key). is_behind k branch ≡ true) (sym same) above
comes_behind last least mark branch (inr settled) above early = less_behind last branch (settled_below mark last branch.key settled early)

round_given : (merger new : Merging) (node : ℕ) (branch : CommittedBranch) (feeds : List NodeFeed) → new.nodes ≡ given_branch node branch merger.nodes → new.heads ≡ merger.heads
    → new.round ≡ merger.round → is_settled (least_bound feeds) branch.key ≡ false → IsInRound merger feeds → IsInRound new (given_branch node branch feeds)
round_given merger new node branch feeds nodes heads round early (inl none) = inl (subst (λ (list : List (Option Key)). HasNoHead list) (sym heads) none)
round_given merger new node branch feeds nodes heads round early (inr (is, low)) =
    let bounds = bound_kept branch (node - 1) feeds in
    inr (
      heads ∙ is
          ∙ sym (ap (λ (mark : ℕ). heads_under mark new.nodes) round ∙ ap (heads_under merger.round) nodes
          ∙ heads_given merger.round branch (unsettled_on merger.round (least_bound feeds) branch.key low early) (node - 1) merger.nodes),
      omega (arith, bounds, low, round),
    )

pub merges_given : (merger new : Merging) (node : ℕ) (branch : CommittedBranch) → new.nodes ≡ given_branch node branch merger.nodes → new.count ≡ merger.count
    → new.heads ≡ merger.heads → new.round ≡ merger.round
    → (count : ℕ) (last : Key) (feeds : List NodeFeed) (gave : List Transaction) → Merges merger count last feeds gave → IsGivenInTime last node branch feeds
    → Merges new count last (given_branch node branch feeds) gave
merges_given merger new node branch nodes same heads round count last feeds gave m g =
    let behind = comes_behind (last_key last gave) last (least_bound feeds) branch m.settled g.above g.early in
    let bounds = bound_kept branch (node - 1) feeds in
    record {
      counted = same ∙ m.counted;
      waits = nodes ∙ ap (changed_at (with_branch branch) (node - 1)) m.waits
          ∙ sym (map_changed (feed_behind (last_key last gave)) (with_branch branch) (with_branch branch) (behind_more (last_key last gave) branch behind) (node - 1) feeds);
      ordered = g.ordered;
      settled = subst (λ (mark : ℕ). (last_key last gave ≡ last) ⊎ (is_settled mark (last_key last gave) ≡ true)) (sym bounds) m.settled;
      gives = λ mark above. ap (transactions_under count mark) (fed_more (last_key last gave) branch behind (node - 1) feeds)
          ∙ m.gives mark (subst (λ (low : ℕ). low ≤ mark) bounds above);
      in_round = round_given merger new node branch feeds nodes heads round g.early m.in_round;
    }

-- ---- another bound

fed_told : (bound index : ℕ) (feeds : List NodeFeed) → fed_branches (changed_at (with_bound bound) index feeds) ≡ fed_branches feeds
fed_told bound index [] = refl
fed_told bound zero (feed ∷ feeds) = refl
fed_told bound (suc index) (feed ∷ feeds) = ap (λ (list : List CommittedBranch). feed.branches ++ list) (fed_told bound index feeds)

ordered_told : (last : Key) (bound index : ℕ) (feeds : List NodeFeed) → AreOrderedFeeds last feeds → AreOrderedFeeds last (changed_at (with_bound bound) index feeds)
ordered_told last bound index [] ordered = tt
ordered_told last bound zero (feed ∷ feeds) (is, ordered) = (record { order = is.order; above = is.above }, ordered)
ordered_told last bound (suc index) (feed ∷ feeds) (is, ordered) = (is, ordered_told last bound index feeds ordered)

still_settled : (less mark : ℕ) (key last : Key) → less ≤ mark → (key ≡ last) ⊎ (is_settled less key ≡ true) → (key ≡ last) ⊎ (is_settled mark key ≡ true)
still_settled less mark key last h (inl same) = inl same
still_settled less mark key last h (inr settled) = inr (settled_on less mark key h settled)

round_told : (merger new : Merging) (node bound : ℕ) (feeds : List NodeFeed) → new.nodes ≡ told_bound node bound merger.nodes → new.heads ≡ merger.heads → new.round ≡ merger.round
    → least_bound feeds ≤ least_bound (told_bound node bound feeds) → IsInRound merger feeds → IsInRound new (told_bound node bound feeds)
round_told merger new node bound feeds nodes heads round higher (inl none) = inl (subst (λ (list : List (Option Key)). HasNoHead list) (sym heads) none)
round_told merger new node bound feeds nodes heads round higher (inr (is, low)) =
    inr (
      heads ∙ is
          ∙ sym (ap (λ (mark : ℕ). heads_under mark new.nodes) round ∙ ap (heads_under merger.round) nodes ∙ heads_told merger.round bound (node - 1) merger.nodes),
      omega (arith, higher, low, round),
    )

pub merges_told : (merger new : Merging) (node bound : ℕ) → new.nodes ≡ told_bound node bound merger.nodes → new.count ≡ merger.count
    → new.heads ≡ merger.heads → new.round ≡ merger.round
    → (count : ℕ) (last : Key) (feeds : List NodeFeed) (gave : List Transaction) → Merges merger count last feeds gave
    → least_bound feeds ≤ least_bound (told_bound node bound feeds) → Merges new count last (told_bound node bound feeds) gave
merges_told merger new node bound nodes same heads round count last feeds gave m higher =
    record {
      counted = same ∙ m.counted;
      waits = nodes ∙ ap (changed_at (with_bound bound) (node - 1)) m.waits
          ∙ sym (map_changed (feed_behind (last_key last gave)) (with_bound bound) (with_bound bound) (λ (feed : NodeFeed). refl) (node - 1) feeds);
      ordered = ordered_told last bound (node - 1) feeds m.ordered;
      settled = still_settled (least_bound feeds) (least_bound (told_bound node bound feeds)) (last_key last gave) last higher m.settled;
      gives = λ mark above. ap (λ (list : List CommittedBranch). transactions_under count mark (up_to (last_key last gave) list)) (fed_told bound (node - 1) feeds)
          ∙ m.gives mark (omega (arith, higher, above));
      in_round = round_told merger new node bound feeds nodes heads round higher m.in_round;
    }

-- ---- a merger that is new

none_fed : (nodes : ℕ) → fed_branches (no_feeds nodes) ≡ []
none_fed zero = refl
none_fed (suc nodes) = none_fed nodes

pub so_many_feeds : (nodes : ℕ) → length (no_feeds nodes) ≡ nodes
so_many_feeds zero = refl
so_many_feeds (suc nodes) = ap (λ (n : ℕ). suc n) (so_many_feeds nodes)

none_behind : (last : Key) (nodes : ℕ) → no_feeds nodes ≡ map (feed_behind last) (no_feeds nodes)
none_behind last zero = refl
none_behind last (suc nodes) = ap (λ (list : List NodeFeed). feed_with [] 0 ∷ list) (none_behind last nodes)

none_ordered : (last : Key) (nodes : ℕ) → AreOrderedFeeds last (no_feeds nodes)
none_ordered last zero = tt
none_ordered last (suc nodes) = (record { order = tt; above = tt }, none_ordered last nodes)

pub merges_new : (merger : Merging) (nodes count : ℕ) (last : Key) → merger.count ≡ count → merger.nodes ≡ no_feeds nodes → HasNoHead merger.heads → Merges merger count last (no_feeds nodes) []
merges_new merger nodes count last same is none =
    record {
      counted = omega (arith, same);
      waits = is ∙ none_behind last nodes;
      ordered = none_ordered last nodes;
      settled = inl refl;
      gives = λ mark above. ap (λ (list : List CommittedBranch). transactions_under count mark (up_to last list)) (none_fed nodes);
      in_round = inl none;
    }

-- ---- the next transaction, and none

last_of_more : (last : Key) (gave : List Transaction) (txn : Transaction) → last_key last (gave ++ txn ∷ []) ≡ txn.key
last_of_more last [] txn = refl
last_of_more last (first ∷ gave) txn = last_of_more first.key gave txn

same_bound : (last : Key) (feeds : List NodeFeed) → map (λ (feed : NodeFeed). feed.bound) (map (feed_behind last) feeds) ≡ map (λ (feed : NodeFeed). feed.bound) feeds
same_bound last [] = refl
same_bound last (feed ∷ feeds) = ap (λ (list : List ℕ). feed.bound ∷ list) (same_bound last feeds)

bound_of : (merger : Merging) (last : Key) (feeds : List NodeFeed) → merger.nodes ≡ map (feed_behind last) feeds → least_bound merger.nodes ≡ least_bound feeds
bound_of merger last feeds is = ap least_bound is ∙ ap low_water_mark (same_bound last feeds)

pub merges_next : (merger : Merging) (key : Key) (heads : List (Option Key)) → IsLeastHead (Some key) merger.nodes → is_settled merger.round key ≡ true
    → heads ≡ heads_under merger.round (map (without_front key) merger.nodes)
    → (count : ℕ) (last : Key) (feeds : List NodeFeed) (gave : List Transaction) → Merges merger count last feeds gave
    → merger.round ≤ least_bound feeds
    → Merges (merging (merger.count + 1) (map (without_front key) merger.nodes) heads merger.round) count last feeds
    (gave ++ transaction_with (merger.count + 1) key (fronts_of key merger.nodes) ∷ [])
merges_next merger key heads_new head settled entered count last feeds gave m low =
    let old = last_key last gave in
    let txn = transaction_with (merger.count + 1) key (fronts_of key merger.nodes) in
    let heads = subst (NoHeadIsBelow key) m.waits head.0 in
    let waits = subst (λ (list : List CommittedBranch). Contains (keys_of list) key) (ap fed_branches m.waits ∙ waits_of_all old feeds) head.1 in
    let less = (waiting_member old (fed_branches feeds) key waits).1 in
    let none = none_waits_below old key feeds last m.ordered heads in
    let is_key = last_of_more last gave txn in
    let settles = settled_on merger.round (least_bound feeds) key low settled in
    let own = ap (fronts_of key) m.waits ∙ fronts_are_own old key feeds less last m.ordered heads in
    record {
      counted = ap (λ (n : ℕ). n + 1) m.counted ∙ more_count count gave txn;
      waits = ap (map (without_front key)) m.waits ∙ rests_are_behind old key feeds less last m.ordered heads
          ∙ ap (λ (k : Key). map (feed_behind k) feeds) (sym is_key);
      ordered = m.ordered;
      settled = inr (subst (λ (k : Key). is_settled (least_bound feeds) k ≡ true) (sym is_key) settles);
      gives = λ mark above.
          ap (λ (k : Key). transactions_under count mark (fed_up_to k feeds)) is_key
          ∙ next_given count mark (fed_branches feeds) old key gave (settled_on (least_bound feeds) mark key above settles) waits none (m.gives mark above)
          ∙ ap (λ (n : ℕ). gave ++ transaction_of (fed_branches feeds) n key ∷ []) (ap (λ (n : ℕ). n + 1) (sym m.counted))
          ∙ ap (λ (list : List CommittedBranch). gave ++ transaction_with (merger.count + 1) key list ∷ []) (sym own);
      in_round = inr (entered, low);
    }

gave_all : (merger : Merging) (count : ℕ) (last : Key) (feeds : List NodeFeed) (gave : List Transaction) → Merges merger count last feeds gave
    → NoneSettled (least_bound feeds) (filter (is_behind (last_key last gave)) (fed_branches feeds)) → gave ≡ merged_transactions count feeds
gave_all merger count last feeds gave m none =
    sym (m.gives (least_bound feeds) (le_refl (least_bound feeds))) ∙ none_left count (least_bound feeds) (fed_branches feeds) (last_key last gave) none

in_order : (last lowest : Key) (feeds : List NodeFeed) → AreOrderedFeeds lowest feeds → AllByRecursion (λ (feed : NodeFeed). ComeInOrder feed.branches) (map (feed_behind last) feeds)
in_order last lowest [] ordered = tt
in_order last lowest (feed ∷ feeds) (is, ordered) = (left_in_order last feed.branches is.order, in_order last lowest feeds ordered)

pub nodes_in_order : (merger : Merging) (count : ℕ) (last : Key) (feeds : List NodeFeed) (gave : List Transaction) → Merges merger count last feeds gave
    → AllByRecursion (λ (feed : NodeFeed). ComeInOrder feed.branches) merger.nodes
nodes_in_order merger count last feeds gave m =
    subst (λ (list : List NodeFeed). AllByRecursion (λ (feed : NodeFeed). ComeInOrder feed.branches) list) (sym m.waits) (in_order (last_key last gave) last feeds m.ordered)

-- where the least bound settles no head, all is given
pub merges_none : (merger : Merging) → HasNoHead (heads_under (least_bound merger.nodes) merger.nodes)
    → (count : ℕ) (last : Key) (feeds : List NodeFeed) (gave : List Transaction) → Merges merger count last feeds gave → gave ≡ merged_transactions count feeds
merges_none merger none count last feeds gave m =
    let old = last_key last gave in
    let here = none_waits_settled (least_bound merger.nodes) merger.nodes (nodes_in_order merger count last feeds gave m) none in
    let there = subst (λ (mark : ℕ). NoneSettled mark (fed_branches merger.nodes)) (bound_of merger old feeds m.waits) here in
    gave_all merger count last feeds gave m
    (subst (λ (list : List CommittedBranch). NoneSettled (least_bound feeds) list) (ap fed_branches m.waits ∙ waits_of_all old feeds) there)

-- a merger that has begun a round has given the same
pub merges_begun : (merger new : Merging) → new.nodes ≡ merger.nodes → new.count ≡ merger.count → new.heads ≡ heads_under (least_bound merger.nodes) merger.nodes
    → new.round ≡ least_bound merger.nodes → (count : ℕ) (last : Key) (feeds : List NodeFeed) (gave : List Transaction) → Merges merger count last feeds gave
    → IsRoundOf new count last feeds gave
merges_begun merger new nodes same entered round count last feeds gave m =
    let bounds = bound_of merger (last_key last gave) feeds m.waits in
    let heads : new.heads ≡ heads_under new.round new.nodes =
    entered ∙ sym (ap (λ (mark : ℕ). heads_under mark new.nodes) round ∙ ap (heads_under (least_bound merger.nodes)) nodes) in
    let low : new.round ≤ least_bound feeds = omega (arith, round, bounds) in
    record {
      merges = record { counted = same ∙ m.counted; waits = nodes ∙ m.waits; ordered = m.ordered; settled = m.settled; gives = m.gives; in_round = inr (heads, low) };
      entered = heads;
      low = low;
    }

-- a merger that has heads is in a round
pub in_round_with : (merger : Merging) → HasHead merger.heads → (count : ℕ) (last : Key) (feeds : List NodeFeed) (gave : List Transaction) → Merges merger count last feeds gave
    → IsRoundOf merger count last feeds gave
in_round_with merger some count last feeds gave m = by m.in_round
  where
    by : IsInRound merger feeds → IsRoundOf merger count last feeds gave
    by (inl none) = absurd (some none)
    by (inr (is, low)) = record { merges = m; entered = is; low = low }

-- a merger whose heads were cleared has given the same
pub merges_cleared : (merger new : Merging) → new.nodes ≡ merger.nodes → new.count ≡ merger.count → HasNoHead new.heads
    → (count : ℕ) (last : Key) (feeds : List NodeFeed) (gave : List Transaction) → Merges merger count last feeds gave → Merges new count last feeds gave
merges_cleared merger new nodes same none count last feeds gave m =
    record { counted = same ∙ m.counted; waits = nodes ∙ m.waits; ordered = m.ordered; settled = m.settled; gives = m.gives; in_round = inl none }

-- ---- in the code's own lists

-- a node's place in the list of all, counted from 1
pub given_at : (items nodes : List NodeFeed) (node : ℕ) (branch : CommittedBranch) (x y : NodeFeed) → items ≡ nodes → 1 ≤ node → node ≤ length nodes
    → x ≡ slice_index_or items (node - 1) x → y ≡ with_branch branch x → slice_set items (node - 1) y ≡ given_branch node branch nodes
given_at items nodes node branch x y same low high is made =
    let within : node - 1 < length items = omega (arith, ap length same) in
    set_changed (with_branch branch) (node - 1) items x y x within is made ∙ ap (given_branch node branch) same

pub told_at : (items nodes : List NodeFeed) (node bound : ℕ) (x y : NodeFeed) → items ≡ nodes → 1 ≤ node → node ≤ length nodes
    → x ≡ slice_index_or items (node - 1) x → y ≡ with_bound bound x → slice_set items (node - 1) y ≡ told_bound node bound nodes
told_at items nodes node bound x y same low high is made =
    let within : node - 1 < length items = omega (arith, ap length same) in
    set_changed (with_bound bound) (node - 1) items x y x within is made ∙ ap (told_bound node bound) same

-- a transaction of these fields
abbrev pub transaction_at : ℕ → Key → ℕ → List CommittedBranch → Transaction
transaction_at number key seconds own = record { number = number; key = key; seconds = seconds; branches = own }

-- ---- a list known item by item

ext : {X : Type 0} (d : X) (xs ys : List X) → length xs ≡ length ys → ((node : ℕ) → slice_index_or xs node d ≡ slice_index_or ys node d) → xs ≡ ys
ext d [] [] long same = refl
ext d [] (y ∷ ys) long same = absurd (omega arith)
ext d (x ∷ xs) [] long same = absurd (omega arith)
ext {X} d (x ∷ xs) (y ∷ ys) long same = ap (λ z. z ∷ xs) (same 0) ∙ ap (λ zs. y ∷ zs) (ext d xs ys (omega arith) (λ node. same (suc node)))

at_map : {X Y : Type 0} (f : X → Y) (d : X) (xs : List X) (node : ℕ) → slice_index_or (map f xs) node (f d) ≡ f (slice_index_or xs node d)
at_map f d [] node = refl
at_map f d (x ∷ xs) zero = refl
at_map f d (x ∷ xs) (suc node) = at_map f d xs node

long_map : {X Y : Type 0} (f : X → Y) (xs : List X) → length (map f xs) ≡ length xs
long_map f [] = refl
long_map f (x ∷ xs) = ap (λ (n : ℕ). suc n) (long_map f xs)

pub ready_first : (round : ℕ) (key : Key) (nodes : List NodeFeed) (heads : List (Option Key)) (node : ℕ) → AllByRecursion (λ (feed : NodeFeed). ComeInOrder feed.branches) nodes
    → heads ≡ heads_under round nodes → LeadsWith key_order heads node key → CanGather round key 0 nodes heads
ready_first round key nodes heads node ordered is leads =
    let least = leads_least round key nodes heads node is leads in
    record {
      settled = least.0;
      ordered = ordered;
      above = least.1.0;
      many = ap length is ∙ long_map (λ (feed : NodeFeed). head_under round feed.branches) nodes;
      waits = λ other h. ap (λ (list : List (Option Key)). head_at list other) is ∙ at_map (λ (feed : NodeFeed). head_under round feed.branches) (feed_with [] 0) nodes other;
      passed = λ other h. absurd (omega arith);
    }

pub news_are : (round : ℕ) (key : Key) (nodes news : List NodeFeed) (heads new_heads : List (Option Key)) (own new_own : List CommittedBranch) → length news ≡ length nodes
    → GathersKey round key 0 nodes news heads new_heads own new_own → news ≡ map (without_front key) nodes
news_are round key nodes news heads new_heads own new_own long g =
    ext (feed_with [] 0) news (map (without_front key) nodes) (long ∙ sym (long_map (without_front key) nodes))
    (λ node. g.behind node (omega arith) ∙ sym (at_map (without_front key) (feed_with [] 0) nodes node))

pub heads_are : (round : ℕ) (key : Key) (nodes news : List NodeFeed) (heads new_heads : List (Option Key)) (own new_own : List CommittedBranch) → length new_heads ≡ length nodes
    → GathersKey round key 0 nodes news heads new_heads own new_own → new_heads ≡ heads_under round (map (without_front key) nodes)
heads_are round key nodes news heads new_heads own new_own long g =
    ext None new_heads (heads_under round (map (without_front key) nodes))
    (long ∙ sym (long_map (λ (feed : NodeFeed). head_under round feed.branches) (map (without_front key) nodes) ∙ long_map (without_front key) nodes))
    (λ node. g.entered node (omega arith)
    ∙ ap (λ (feed : NodeFeed). head_under round feed.branches) (sym (at_map (without_front key) (feed_with [] 0) nodes node))
    ∙ sym (at_map (λ (feed : NodeFeed). head_under round feed.branches) (feed_with [] 0) (map (without_front key) nodes) node))

-- the next transaction, as it was gathered
pub next_is : (merger : Merging) (key : Key) (node : ℕ) (news : List NodeFeed) (heads : List (Option Key)) (own : List CommittedBranch) (number seconds : ℕ)
    → LeadsWith key_order merger.heads node key → length news ≡ length merger.nodes → length heads ≡ length merger.nodes
    → (CanGather merger.round key 0 merger.nodes merger.heads → GathersKey merger.round key 0 merger.nodes news merger.heads heads [] own)
    → (merger.count < 2 ^ 64 - 1 → number ≡ merger.count + 1) → seconds ≡ first_seconds own
    → (count : ℕ) (last : Key) (feeds : List NodeFeed) (gave : List Transaction) → IsRoundOf merger count last feeds gave → count + length gave < 2 ^ 64 - 1
    → Merges (merging number news heads merger.round) count last feeds (gave ++ transaction_at number key seconds own ∷ [])
next_is merger key node news heads own number seconds leads long many gathers counts dated count last feeds gave round few =
    let m = round.merges in
    let is = round.entered in
    let least = leads_least merger.round key merger.nodes merger.heads node is leads in
    let g = gathers (ready_first merger.round key merger.nodes merger.heads node (nodes_in_order merger count last feeds gave m) is leads) in
    let left = news_are merger.round key merger.nodes news merger.heads heads [] own long g in
    let entered = heads_are merger.round key merger.nodes news merger.heads heads [] own many g in
    let step = merges_next merger key heads least.1 least.0 entered count last feeds gave m round.low in
    let n : number ≡ merger.count + 1 = counts (subst (λ (k : ℕ). k < 2 ^ 64 - 1) (sym m.counted) few) in
    let kept : merging number news heads merger.round ≡ merging (merger.count + 1) (map (without_front key) merger.nodes) heads merger.round =
    ap (λ (k : ℕ). merging k news heads merger.round) n ∙ ap (λ (list : List NodeFeed). merging (merger.count + 1) list heads merger.round) left in
    let txn : transaction_at number key seconds own ≡ transaction_with (merger.count + 1) key (fronts_of key merger.nodes) =
    ap (λ (k : ℕ). transaction_at k key seconds own) n
    ∙ ap (λ (k : ℕ). transaction_at (merger.count + 1) key k own) dated
    ∙ ap (λ (list : List CommittedBranch). transaction_at (merger.count + 1) key (first_seconds list) list) g.gathered in
    subst (λ (m : Merging). Merges m count last feeds (gave ++ transaction_at number key seconds own ∷ [])) (sym kept)
    (subst (λ (t : Transaction). Merges (merging (merger.count + 1) (map (without_front key) merger.nodes) heads merger.round) count last feeds (gave ++ t ∷ [])) (sym txn) step)

-- what was gathered, over lists that are equal
pub gathers_as : (round : ℕ) (key : Key) (nodes items news list : List NodeFeed) (heads new_heads : List (Option Key)) (own new_own : List CommittedBranch) → nodes ≡ items → list ≡ news → own ≡ []
    → (CanGather round key 0 nodes heads → GathersKey round key 0 nodes news heads new_heads own new_own)
    → CanGather round key 0 items heads → GathersKey round key 0 items list heads new_heads [] new_own
gathers_as round key nodes items news list heads new_heads own new_own same left empty gathers r =
    let g = gathers (subst (λ (all : List NodeFeed). CanGather round key 0 all heads) (sym same) r) in
    let g1 = subst (λ (all : List NodeFeed). GathersKey round key 0 all news heads new_heads own new_own) same g in
    let g2 = subst (λ (all : List NodeFeed). GathersKey round key 0 items all heads new_heads own new_own) (sym left) g1 in
    subst (λ (all : List CommittedBranch). GathersKey round key 0 items list heads new_heads all new_own) empty g2

-- a round that was begun and has no head has changed nothing
pub begun_unchanged : (new old : Merging) → new.nodes ≡ old.nodes → new.count ≡ old.count → new.round ≡ old.round → length new.heads ≡ length old.heads → HasNoHead old.heads
    → HasNoHead new.heads → new ≡ old
begun_unchanged new old nodes count round long none empty =
    ap (λ (k : ℕ). merging k new.nodes new.heads new.round) count
    ∙ ap (λ (list : List NodeFeed). merging old.count list new.heads new.round) nodes
    ∙ ap (λ (list : List (Option Key)). merging old.count old.nodes list new.round) (none_alike new.heads old.heads empty none long)
    ∙ ap (merging old.count old.nodes old.heads) round
