-- One item more of a node, as its feed and all feeds have it.
use Rattle.std.proofs.Common.{◌≡◌, ℕ, zero, suc, ◌+◌, ◌-◌, ◌≤◌, ◌<◌, true, false, List, [], ◌∷◌, ◌++◌, length, map, get_or, set, refl, sym, ap, subst, arith, le_refl, append-nil}
use Rattle.std.specs.List.{AllZip, AllByRecursion, fold}
use Rattle.std.proofs.lemmas.List.{length-map}
use Rattle.std.specs.declared.cmp.Ordering.TheVariants.{Less}
use Rattle.cdc_base.specs.declared.key.Key.{Key}
use Rattle.cdc_base.specs.Key.{key_order}
use Rattle.cdc_model.specs.Records.{CommittedBranch}
use Rattle.cdc_model.specs.Branch.{is_settled}
use Rattle.cdc_model.specs.Feed.{NodeFeed, FeedGrows, least_bound}
use Rattle.cdc_model.proofs.FeedLaws.{lowest_each, lowest_lower}
use Rattle.cdc_model.proofs.OwnBranches.{unsettled_on}
use Rattle.cdc_model.specs.NodeReading.{no_feed}
use Rattle.cdc_merger.specs.Feeding.{is_behind, ComeInOrder, changed_at, with_branch, with_bound}
use Rattle.cdc_merger.specs.Merging.{IsOrderedFeed, AreOrderedFeeds, IsGivenInTime}
use Rattle.cdc_item.specs.declared.node_item.NodeItem.{NodeItem}
use Rattle.cdc_item.specs.declared.node_item.NodeItem.TheVariants.{Branch, Bound, End as NodeEnd}
use Rattle.cdc_merge_stage.specs.declared.start.MergeStart.{MergeStart}
use Rattle.cdc_merge_stage.specs.Making.{IsHigher}
use Rattle.cdc_merge_stage.specs.Merged.{fed, feed_of, feeds_of, IsInTime, IsKeptItems, AreKept}
use Rattle.cdc_merge_stage.proofs.Places.{all_set, all_at, all_seen, all_front, all_last}

pub fold_last : (feed : NodeFeed) (items : List NodeItem) (item : NodeItem) → fold fed feed (items ++ item ∷ []) ≡ fed (fold fed feed items) item
fold_last feed [] item = refl
fold_last feed (first ∷ items) item = fold_last (fed feed first) items item

pub feed_last : (items : List NodeItem) (item : NodeItem) → feed_of (items ++ item ∷ []) ≡ fed (feed_of items) item
feed_last items item = fold_last no_feed items item

-- the lists of which one has one item more
abbrev pub more_at : List (List NodeItem) → ℕ → NodeItem → List (List NodeItem)
more_at takes k item = set takes k (get_or takes k [] ++ item ∷ [])

pub feeds_changed : (takes : List (List NodeItem)) (k : ℕ) (item : NodeItem) → feeds_of (more_at takes k item) ≡ changed_at (λ feed. fed feed item) k (feeds_of takes)
feeds_changed [] k item = refl
feeds_changed (items ∷ takes) zero item = ap (λ (feed : NodeFeed). feed ∷ feeds_of takes) (feed_last items item)
feeds_changed (items ∷ takes) (suc k) item = ap (λ (feeds : List NodeFeed). feed_of items ∷ feeds) (feeds_changed takes k item)

pub same_changed : (k : ℕ) (feeds : List NodeFeed) → changed_at (λ feed. fed feed NodeEnd) k feeds ≡ feeds
same_changed k [] = refl
same_changed zero (feed ∷ feeds) = refl
same_changed (suc k) (feed ∷ feeds) = ap (λ (l : List NodeFeed). feed ∷ l) (same_changed k feeds)

-- what a kept item is to the feed before it
abbrev pub IsLast : NodeFeed → NodeItem → Type 0
IsLast feed (Branch branch) = is_settled feed.bound branch.key ≡ false
IsLast feed (Bound bound) = feed.bound ≤ bound
IsLast feed NodeEnd = Unit {0}

pub time_last : (feed : NodeFeed) (items : List NodeItem) (item : NodeItem) → IsInTime feed (items ++ item ∷ []) → IsLast (fold fed feed items) item
time_last feed [] (Branch branch) (is, rest) = is
time_last feed [] (Bound bound) (is, rest) = is
time_last feed [] NodeEnd rest = tt
time_last feed (Branch branch ∷ items) item (is, rest) = time_last (with_branch branch feed) items item rest
time_last feed (Bound bound ∷ items) item (is, rest) = time_last (with_bound bound feed) items item rest
time_last feed (NodeEnd ∷ items) item rest = time_last feed items item rest

pub time_front : (feed : NodeFeed) (items : List NodeItem) (item : NodeItem) → IsInTime feed (items ++ item ∷ []) → IsInTime feed items
time_front feed [] item rest = tt
time_front feed (Branch branch ∷ items) item (is, rest) = (is, time_front (with_branch branch feed) items item rest)
time_front feed (Bound bound ∷ items) item (is, rest) = (is, time_front (with_bound bound feed) items item rest)
time_front feed (NodeEnd ∷ items) item rest = time_front feed items item rest

order_front : (branches : List CommittedBranch) (branch : CommittedBranch) → ComeInOrder (branches ++ branch ∷ []) → ComeInOrder branches
order_front [] branch order = tt
order_front (first ∷ branches) branch (none, order) = (all_front (λ (b : CommittedBranch). key_order b.key first.key ≡ Less → ⊥) branches branch none, order_front branches branch order)

ordered_before : (last : Key) (feed : NodeFeed) (item : NodeItem) → IsOrderedFeed last (fed feed item) → IsOrderedFeed last feed
ordered_before last feed (Branch branch) h = record {
  order = order_front feed.branches branch h.order;
  above = all_front (λ (b : CommittedBranch). is_behind last b ≡ true) feed.branches branch h.above;
}
ordered_before last feed (Bound bound) h = record { order = h.order; above = h.above }
ordered_before last feed NodeEnd h = h

pub kept_before : (last : Key) (items : List NodeItem) (item : NodeItem) → IsKeptItems last (items ++ item ∷ []) → IsKeptItems last items
kept_before last items item h = record {
  in_time = time_front no_feed items item h.in_time;
  ordered = ordered_before last (feed_of items) item (subst (IsOrderedFeed last) (feed_last items item) h.ordered);
}

module _ (start : MergeStart) (takes : List (List NodeItem)) (k : ℕ) (item : NodeItem) (within : k < length takes) (kept : AreKept start (more_at takes k item)) where
  abbrev had : List NodeItem
  had = get_or takes k []

  here : IsKeptItems start.last (had ++ item ∷ [])
  here = all_at (IsKeptItems start.last) takes k (had ++ item ∷ []) within kept

  pub kept_so_far : AreKept start takes
  kept_so_far = all_set (IsKeptItems start.last) takes k (had ++ item ∷ []) [] (λ is. kept_before start.last had item is) kept

  pub is_last : IsLast (feed_of had) item
  is_last = time_last no_feed had item here.in_time

  pub ordered_now : AreOrderedFeeds start.last (changed_at (λ feed. fed feed item) k (feeds_of takes))
  ordered_now = subst (AreOrderedFeeds start.last) (feeds_changed takes k item) (all_seen feed_of (IsKeptItems start.last) (IsOrderedFeed start.last) (λ items h. h.ordered) (more_at takes k item) kept)

-- ---- the bounds

own_feed : (takes : List (List NodeItem)) (k : ℕ) (d : NodeFeed) → k < length takes → get_or (feeds_of takes) k d ≡ feed_of (get_or takes k [])
own_feed [] k d within = absurd (omega (arith, within))
own_feed (items ∷ takes) zero d within = refl
own_feed (items ∷ takes) (suc k) d within = own_feed takes k d (omega (arith, within))

bound_at : (feeds : List NodeFeed) (k : ℕ) (low : ℕ) → k < length feeds → AllByRecursion (λ (number : ℕ). low ≤ number) (map (λ (feed : NodeFeed). feed.bound) feeds) → (d : NodeFeed) → low ≤ (get_or feeds k d).bound
bound_at [] k low within all d = absurd (omega (arith, within))
bound_at (feed ∷ feeds) zero low within (first, all) d = first
bound_at (feed ∷ feeds) (suc k) low within (first, all) d = bound_at feeds k low (omega (arith, within)) all d

pub least_here : (takes : List (List NodeItem)) (k : ℕ) → k < length takes → least_bound (feeds_of takes) ≤ (feed_of (get_or takes k [])).bound
least_here takes k within =
    let many = length-map takes feed_of in
    let low = bound_at (feeds_of takes) k (least_bound (feeds_of takes)) (omega (arith, within, many)) (lowest_each (map (λ (feed : NodeFeed). feed.bound) (feeds_of takes))) no_feed in
    let is = ap (λ (feed : NodeFeed). feed.bound) (own_feed takes k no_feed within) in
    omega (arith, low, is)

raised : (bound k : ℕ) (takes : List (List NodeItem)) → k < length takes → (feed_of (get_or takes k [])).bound ≤ bound
    → AllZip (λ (low high : ℕ). low ≤ high) (map (λ (feed : NodeFeed). feed.bound) (feeds_of takes)) (map (λ (feed : NodeFeed). feed.bound) (changed_at (with_bound bound) k (feeds_of takes)))
raised bound k [] within low = tt
raised bound zero (items ∷ takes) within low = (low, same_each takes)
  where
    same_each : (rest : List (List NodeItem)) → AllZip (λ (low high : ℕ). low ≤ high) (map (λ (feed : NodeFeed). feed.bound) (feeds_of rest)) (map (λ (feed : NodeFeed). feed.bound) (feeds_of rest))
    same_each [] = tt
    same_each (first ∷ rest) = (le_refl (feed_of first).bound, same_each rest)
raised bound (suc k) (items ∷ takes) within low = (le_refl (feed_of items).bound, raised bound k takes (omega (arith, within)) low)

pub is_higher : (bound k : ℕ) (takes : List (List NodeItem)) → k < length takes → (feed_of (get_or takes k [])).bound ≤ bound → IsHigher (k + 1) bound (feeds_of takes)
is_higher bound k takes within low =
    subst (λ (n : ℕ). least_bound (feeds_of takes) ≤ least_bound (changed_at (with_bound bound) n (feeds_of takes))) (let e : k ≡ k + 1 - 1 = omega arith in e)
    (lowest_lower (map (λ (feed : NodeFeed). feed.bound) (feeds_of takes)) (map (λ (feed : NodeFeed). feed.bound) (changed_at (with_bound bound) k (feeds_of takes))) (raised bound k takes within low))

pub given_in_time : (start : MergeStart) (branch : CommittedBranch) (k : ℕ) (takes : List (List NodeItem)) → k < length takes → AreKept start (more_at takes k (Branch branch)) → IsGivenInTime start.last (k + 1) branch (feeds_of takes)
given_in_time start branch k takes within kept =
    let at = all_at (IsKeptItems start.last) takes k (get_or takes k [] ++ Branch branch ∷ []) within kept in
    record {
      ordered = subst (λ (n : ℕ). AreOrderedFeeds start.last (changed_at (with_branch branch) n (feeds_of takes))) (let e : k ≡ k + 1 - 1 = omega arith in e) (ordered_now start takes k (Branch branch) within kept);
      early = unsettled_on (least_bound (feeds_of takes)) (feed_of (get_or takes k [])).bound branch.key (least_here takes k within) (is_last start takes k (Branch branch) within kept);
      above =
          let feed = subst (IsOrderedFeed start.last) (feed_last (get_or takes k []) (Branch branch)) at.ordered in
          all_last (λ (b : CommittedBranch). is_behind start.last b ≡ true) (feed_of (get_or takes k [])).branches branch feed.above;
    }

-- ---- feeds go on

grows_one : (feed : NodeFeed) (item : NodeItem) → IsLast feed item → FeedGrows feed (fed feed item)
grows_one feed (Branch branch) is = record { more = branch ∷ []; goes_on = refl; above = (is, tt); bounded = le_refl feed.bound }
grows_one feed (Bound bound) is = record { more = []; goes_on = sym (append-nil feed.branches); above = tt; bounded = is }
grows_one feed NodeEnd is = record { more = []; goes_on = sym (append-nil feed.branches); above = tt; bounded = le_refl feed.bound }

grow_none : (feeds : List NodeFeed) → AllZip FeedGrows feeds feeds
grow_none [] = tt
grow_none (feed ∷ feeds) = (grows_one feed NodeEnd tt, grow_none feeds)

pub all_grow : (takes : List (List NodeItem)) (k : ℕ) (item : NodeItem) → IsLast (feed_of (get_or takes k [])) item → AllZip FeedGrows (feeds_of takes) (changed_at (λ feed. fed feed item) k (feeds_of takes))
all_grow [] k item is = tt
all_grow (items ∷ takes) zero item is = (grows_one (feed_of items) item is, grow_none (feeds_of takes))
all_grow (items ∷ takes) (suc k) item is = (grows_one (feed_of items) NodeEnd tt, all_grow takes k item is)
