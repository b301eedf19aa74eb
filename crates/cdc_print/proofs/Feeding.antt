-- What a node gives, as its feed among those of all nodes.
use Rattle.std.proofs.Common.{◌≡◌, ◌≤◌, ◌<◌, inl, inr, ℕ, zero, suc, ◌+◌, ◌-◌, true, false, List, [], ◌∷◌, ◌++◌, length, map, ap, sym, refl, subst, arith, le_refl}
use Rattle.std.specs.List.{AllByRecursion, AllZip}
use Rattle.std.specs.Ordering.{is_lt, is_gt}
use Rattle.std.specs.declared.cmp.Ordering.{Ordering}
use Rattle.std.specs.declared.cmp.Ordering.TheVariants.{Less, Equal, Greater}
use Rattle.cdc_base.specs.declared.key.Key.{Key}
use Rattle.cdc_base.specs.Key.{key_order}
use Rattle.cdc_model.specs.Records.{CommittedBranch}
use Rattle.cdc_model.specs.Branch.{is_settled}
use Rattle.cdc_model.specs.SettledOrder.{IsFront}
use Rattle.cdc_model.specs.Feed.{NodeFeed, FeedGrows, least_bound}
use Rattle.cdc_model.specs.NodeReading.{StandsBefore, StandInOrder, IsNodeOrder}
use Rattle.cdc_model.proofs.KeyList.{above, not_below_itself, not_both_below}
use Rattle.cdc_model.proofs.OwnBranches.{unsettled_on}
use Rattle.cdc_model.proofs.FeedLaws.{lowest_each, lowest_lower, all_mapped, zip_map}
use Rattle.cdc_merger.specs.Feeding.{is_behind, NoneIsBelow, ComeInOrder, with_branch, changed_at}
use Rattle.cdc_merger.specs.Rounds.{node_at}
use Rattle.cdc_merger.specs.Merging.{IsOrderedFeed, AreOrderedFeeds, IsGivenInTime}

-- ---- a front of branches in a node's order comes in order

greater_of : (o : Ordering) → is_gt o ≡ true → o ≡ Greater
greater_of Less e = absurd (cc)
greater_of Equal e = absurd (cc)
greater_of Greater e = refl

not_below : (a b : CommittedBranch) → StandsBefore a b → key_order b.key a.key ≡ Less → ⊥
not_below a b (inl less) back = not_both_below a.key b.key less back
not_below a b (inr same) back = not_below_itself a.key (subst (λ (k : Key). key_order k a.key ≡ Less) (sym same.0) back)

none_below : (branch : CommittedBranch) (front rest : List CommittedBranch) → AllByRecursion (StandsBefore branch) (front ++ rest) → NoneIsBelow branch.key front
none_below branch [] rest all = tt
none_below branch (other ∷ front) rest all = (not_below branch other all.0, none_below branch front rest all.1)

come_in_order : (front rest : List CommittedBranch) → StandInOrder (front ++ rest) → ComeInOrder front
come_in_order [] rest order = tt
come_in_order (branch ∷ front) rest order = (none_below branch front rest order.0, come_in_order front rest order.1)

come_above : (last : Key) (front rest : List CommittedBranch) → AllByRecursion (λ (branch : CommittedBranch). is_gt (key_order branch.key last) ≡ true) (front ++ rest)
    → AllByRecursion (λ (branch : CommittedBranch). is_behind last branch ≡ true) front
come_above last [] rest all = tt
come_above last (branch ∷ front) rest all =
    (ap is_lt (above branch.key last (greater_of (key_order branch.key last) all.0)), come_above last front rest all.1)

-- a feed of such branches is in order
pub ordered_feed : (last : Key) (mark : ℕ) (whole : List CommittedBranch) (feed : NodeFeed) → IsNodeOrder last mark whole → IsFront feed.branches whole
    → IsOrderedFeed last feed
ordered_feed last mark whole feed order front = record {
  order = come_in_order feed.branches front.rest (subst StandInOrder front.is order.ordered);
  above =
      come_above last feed.branches front.rest
      (subst (λ (list : List CommittedBranch). AllByRecursion (λ (branch : CommittedBranch). is_gt (key_order branch.key last) ≡ true) list) front.is order.above);
}

-- ---- one feed of all

pub changed_many : {X : Type 0} (f : X → X) (index : ℕ) (xs : List X) → length (changed_at f index xs) ≡ length xs
changed_many f index [] = refl
changed_many f zero (x ∷ xs) = refl
changed_many f (suc index) (x ∷ xs) = ap (λ (n : ℕ). suc n) (changed_many f index xs)

pub changed_to_itself : {X : Type 0} (index : ℕ) (xs : List X) → changed_at (λ (x : X). x) index xs ≡ xs
changed_to_itself index [] = refl
changed_to_itself zero (x ∷ xs) = refl
changed_to_itself (suc index) (x ∷ xs) = ap (λ list. x ∷ list) (changed_to_itself index xs)

each_at : (P : NodeFeed → Type 0) (index : ℕ) (feeds : List NodeFeed) → index < length feeds → AllByRecursion P feeds → P (node_at feeds index)
each_at P index [] h all = absurd (omega (arith, h))
each_at P zero (feed ∷ feeds) h all = all.0
each_at P (suc index) (feed ∷ feeds) h all = each_at P index feeds (omega (arith, h)) all.1

each_changed : (P : NodeFeed → Type 0) (f : NodeFeed → NodeFeed) (index : ℕ) (feeds : List NodeFeed) → P (f (node_at feeds index)) → AllByRecursion P feeds
    → AllByRecursion P (changed_at f index feeds)
each_changed P f index [] new all = tt
each_changed P f zero (feed ∷ feeds) new all = (new, all.1)
each_changed P f (suc index) (feed ∷ feeds) new all = (all.0, each_changed P f index feeds new all.1)

bounds_stay : (feeds : List NodeFeed) → AllZip (λ (x y : NodeFeed). x.bound ≤ y.bound) feeds feeds
bounds_stay [] = tt
bounds_stay (x ∷ xs) = (le_refl x.bound, bounds_stay xs)

bounds_rise : (f : NodeFeed → NodeFeed) (index : ℕ) (feeds : List NodeFeed) → (node_at feeds index).bound ≤ (f (node_at feeds index)).bound
    → AllZip (λ (x y : NodeFeed). x.bound ≤ y.bound) feeds (changed_at f index feeds)
bounds_rise f index [] h = tt
bounds_rise f zero (feed ∷ feeds) h = (h, bounds_stay feeds)
bounds_rise f (suc index) (feed ∷ feeds) h = (le_refl feed.bound, bounds_rise f index feeds h)

-- a bound that doesn't fall leaves the least where it was, or raises it
pub least_rises : (f : NodeFeed → NodeFeed) (index : ℕ) (feeds : List NodeFeed) → (node_at feeds index).bound ≤ (f (node_at feeds index)).bound
    → least_bound feeds ≤ least_bound (changed_at f index feeds)
least_rises f index feeds h =
    lowest_lower (map (λ (feed : NodeFeed). feed.bound) feeds) (map (λ (feed : NodeFeed). feed.bound) (changed_at f index feeds))
    (zip_map (λ (feed : NodeFeed). feed.bound) (λ (feed : NodeFeed). feed.bound) feeds (changed_at f index feeds) (bounds_rise f index feeds h))

least_low : (index : ℕ) (feeds : List NodeFeed) → index < length feeds → least_bound feeds ≤ (node_at feeds index).bound
least_low index feeds h =
    each_at (λ (feed : NodeFeed). least_bound feeds ≤ feed.bound) index feeds h
    (all_mapped (λ (feed : NodeFeed). feed.bound) (least_bound feeds) feeds (lowest_each (map (λ (feed : NodeFeed). feed.bound) feeds)))

-- ---- a branch that goes on a feed is given in time

last_of : (P : CommittedBranch → Type 0) (branches : List CommittedBranch) (branch : CommittedBranch) → AllByRecursion P (branches ++ branch ∷ []) → P branch
last_of P [] branch all = all.0
last_of P (first ∷ branches) branch all = last_of P branches branch all.1

abbrev behind_first : List CommittedBranch → List CommittedBranch
behind_first [] = []
behind_first (b ∷ bs) = bs

-- what a feed has more, where it is one branch
one_more : (branches more : List CommittedBranch) (branch : CommittedBranch) → branches ++ branch ∷ [] ≡ branches ++ more → branch ∷ [] ≡ more
one_more [] more branch same = same
one_more (first ∷ branches) more branch same = one_more branches more branch (ap behind_first same)

pub given_in_time : (last : Key) (index : ℕ) (branch : CommittedBranch) (feeds : List NodeFeed) → AreOrderedFeeds last feeds → index < length feeds
    → IsOrderedFeed last (with_branch branch (node_at feeds index)) → FeedGrows (node_at feeds index) (with_branch branch (node_at feeds index))
    → IsGivenInTime last (index + 1) branch feeds
given_in_time last index branch feeds all h ordered grows =
    let old = node_at feeds index in
    let none : AllByRecursion (λ (b : CommittedBranch). is_settled old.bound b.key ≡ false) (branch ∷ [])
    = subst (λ (list : List CommittedBranch). AllByRecursion (λ (b : CommittedBranch). is_settled old.bound b.key ≡ false) list)
    (sym (one_more old.branches grows.more branch grows.goes_on)) grows.above in
    let place : index ≡ (index + 1) - 1 = omega arith in
    record {
      ordered =
          subst (λ (i : ℕ). AreOrderedFeeds last (changed_at (with_branch branch) i feeds)) place
          (each_changed (IsOrderedFeed last) (with_branch branch) index feeds ordered all);
      early = unsettled_on (least_bound feeds) old.bound branch.key (least_low index feeds h) none.0;
      above = last_of (λ (b : CommittedBranch). is_behind last b ≡ true) old.branches branch ordered.above;
    }
