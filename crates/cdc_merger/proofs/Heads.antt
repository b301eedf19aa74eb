-- Of branches in order the ones in front of a key are all that have it.
use Rattle.std.proofs.Common.{◌≡◌, ℕ, Bool, true, false, List, [], ◌∷◌, ◌++◌, map, filter, if◌then◌else◌, ap, sym, refl, subst, ◌∙◌}
use Rattle.std.specs.List.{AllByRecursion}
use Rattle.std.specs.declared.cmp.Ordering.TheVariants.{Less}
use Rattle.std.proofs.lemmas.List.Elements.{filter-append}
use Rattle.cdc_base.specs.declared.key.Key.{Key}
use Rattle.cdc_base.specs.Key.{key_order}
use Rattle.cdc_model.specs.Records.{CommittedBranch}
use Rattle.cdc_model.specs.Transaction.{has_key}
use Rattle.cdc_model.specs.Feed.{NodeFeed, fed_branches, own_branches}
use Rattle.cdc_merger.specs.Feeding.{is_behind, NoneIsBelow, ComeInOrder, front_of, behind_front, without_front, fronts_of, HeadIsNotBelow, NoHeadIsBelow}
use Rattle.cdc_merger.specs.Merging.{AreOrderedFeeds, feed_behind}
use Rattle.cdc_merger.proofs.KeyTests.{behind_less, less_behind, not_below_through, own_not_behind, lacks_then_behind, behind_lacks, below_along, not_behind_on, lacks_before}

pub kept_by : {X : Type 0} (test : X → Bool) (x : X) (xs : List X) → test x ≡ true → filter test (x ∷ xs) ≡ x ∷ filter test xs
kept_by test x xs e = ap (λ (b : Bool). if b then x ∷ filter test xs else filter test xs) e

pub dropped_by : {X : Type 0} (test : X → Bool) (x : X) (xs : List X) → test x ≡ false → filter test (x ∷ xs) ≡ filter test xs
dropped_by test x xs e = ap (λ (b : Bool). if b then x ∷ filter test xs else filter test xs) e

-- all stand behind a key
abbrev pub AllBehind : Key → List CommittedBranch → Type 0
AllBehind key branches = AllByRecursion (λ (branch : CommittedBranch). is_behind key branch ≡ true) branches

pub all_behind : (key first : Key) (branches : List CommittedBranch) → key_order key first ≡ Less → NoneIsBelow first branches → AllBehind key branches
all_behind key first [] less none = tt
all_behind key first (branch ∷ branches) less (never, none) =
    (less_behind key branch (below_along key first branch.key less never), all_behind key first branches less none)

pub kept_all : (key : Key) (branches : List CommittedBranch) → AllBehind key branches → filter (is_behind key) branches ≡ branches
kept_all key [] all = refl
kept_all key (branch ∷ branches) (is, all) = kept_by (is_behind key) branch branches is ∙ ap (λ (list : List CommittedBranch). branch ∷ list) (kept_all key branches all)

pub own_none : (key : Key) (branches : List CommittedBranch) → AllBehind key branches → filter (has_key key) branches ≡ []
own_none key [] all = refl
own_none key (branch ∷ branches) (is, all) = dropped_by (has_key key) branch branches (behind_lacks key branch is) ∙ own_none key branches all

none_below_on : (key first : Key) (branches : List CommittedBranch) → (key_order first key ≡ Less → ⊥) → NoneIsBelow first branches → NoneIsBelow key branches
none_below_on key first [] never none = tt
none_below_on key first (branch ∷ branches) never (still, none) = (not_below_through key first branch.key never still, none_below_on key first branches never none)

pub none_below : (key : Key) (branches : List CommittedBranch) → ComeInOrder branches → HeadIsNotBelow key branches → NoneIsBelow key branches
none_below key [] order head = tt
none_below key (branch ∷ branches) (first, order) head = (head, none_below_on key branch.key branches head first)

front_with : (key : Key) (branch : CommittedBranch) (branches : List CommittedBranch) (b : Bool) → has_key key branch ≡ b
    → front_of key (branch ∷ branches) ≡ (if b then branch ∷ front_of key branches else [])
front_with key branch branches b e = ap (λ (b : Bool). if b then branch ∷ front_of key branches else []) e

behind_with : (key : Key) (branch : CommittedBranch) (branches : List CommittedBranch) (b : Bool) → has_key key branch ≡ b
    → behind_front key (branch ∷ branches) ≡ (if b then behind_front key branches else branch ∷ branches)
behind_with key branch branches b e = ap (λ (b : Bool). if b then behind_front key branches else branch ∷ branches) e

pub front_is_own : (key : Key) (branches : List CommittedBranch) → ComeInOrder branches → NoneIsBelow key branches
    → front_of key branches ≡ filter (has_key key) branches
front_is_own key [] order none = refl
front_is_own key (branch ∷ branches) (first, order) (never, none) = by (has_key key branch) refl (front_is_own key branches order none)
  where
    by : (b : Bool) → has_key key branch ≡ b → front_of key branches ≡ filter (has_key key) branches
        → front_of key (branch ∷ branches) ≡ filter (has_key key) (branch ∷ branches)
    by true e later = front_with key branch branches true e ∙ ap (λ (list : List CommittedBranch). branch ∷ list) later ∙ sym (kept_by (has_key key) branch branches e)
    by false e later =
        front_with key branch branches false e
        ∙ sym (own_none key branches (all_behind key branch.key branches (behind_less key branch (lacks_then_behind key branch never e)) first))
        ∙ sym (dropped_by (has_key key) branch branches e)

pub rest_is_behind : (key : Key) (branches : List CommittedBranch) → ComeInOrder branches → NoneIsBelow key branches
    → behind_front key branches ≡ filter (is_behind key) branches
rest_is_behind key [] order none = refl
rest_is_behind key (branch ∷ branches) (first, order) (never, none) = by (has_key key branch) refl (rest_is_behind key branches order none)
  where
    by : (b : Bool) → has_key key branch ≡ b → behind_front key branches ≡ filter (is_behind key) branches
        → behind_front key (branch ∷ branches) ≡ filter (is_behind key) (branch ∷ branches)
    by true e later = behind_with key branch branches true e ∙ later ∙ sym (dropped_by (is_behind key) branch branches (own_not_behind key branch e))
    by false e later =
        behind_with key branch branches false e
        ∙ sym (kept_all key (branch ∷ branches) (
          lacks_then_behind key branch never e,
          all_behind key branch.key branches (behind_less key branch (lacks_then_behind key branch never e)) first,
        ))

-- ---- what is left of branches in order is in order

left_above : (key last : Key) (branches : List CommittedBranch) → NoneIsBelow key branches → NoneIsBelow key (filter (is_behind last) branches)
left_above key last [] none = tt
left_above key last (branch ∷ branches) (never, none) = by (is_behind last branch) refl (left_above key last branches none)
  where
    by : (b : Bool) → is_behind last branch ≡ b → NoneIsBelow key (filter (is_behind last) branches) → NoneIsBelow key (filter (is_behind last) (branch ∷ branches))
    by true e later = subst (NoneIsBelow key) (sym (kept_by (is_behind last) branch branches e)) (never, later)
    by false e later = subst (NoneIsBelow key) (sym (dropped_by (is_behind last) branch branches e)) later

pub left_in_order : (last : Key) (branches : List CommittedBranch) → ComeInOrder branches → ComeInOrder (filter (is_behind last) branches)
left_in_order last [] order = tt
left_in_order last (branch ∷ branches) (first, order) = by (is_behind last branch) refl (left_in_order last branches order)
  where
    by : (b : Bool) → is_behind last branch ≡ b → ComeInOrder (filter (is_behind last) branches) → ComeInOrder (filter (is_behind last) (branch ∷ branches))
    by true e later = subst ComeInOrder (sym (kept_by (is_behind last) branch branches e)) (left_above branch.key last branches first, later)
    by false e later = subst ComeInOrder (sym (dropped_by (is_behind last) branch branches e)) later

-- what stands behind a later key is the same of what stands behind an earlier one
pub behind_both : (last key : Key) (branches : List CommittedBranch) → key_order last key ≡ Less
    → filter (is_behind key) (filter (is_behind last) branches) ≡ filter (is_behind key) branches
behind_both last key [] less = refl
behind_both last key (branch ∷ branches) less = by (is_behind last branch) refl (behind_both last key branches less)
  where
    same : (b : Bool) → is_behind key branch ≡ b → filter (is_behind key) (filter (is_behind last) branches) ≡ filter (is_behind key) branches
        → filter (is_behind key) (branch ∷ filter (is_behind last) branches) ≡ filter (is_behind key) (branch ∷ branches)
    same true e later = kept_by (is_behind key) branch _ e ∙ ap (λ (list : List CommittedBranch). branch ∷ list) later ∙ sym (kept_by (is_behind key) branch branches e)
    same false e later = dropped_by (is_behind key) branch _ e ∙ later ∙ sym (dropped_by (is_behind key) branch branches e)

    by : (b : Bool) → is_behind last branch ≡ b → filter (is_behind key) (filter (is_behind last) branches) ≡ filter (is_behind key) branches
        → filter (is_behind key) (filter (is_behind last) (branch ∷ branches)) ≡ filter (is_behind key) (branch ∷ branches)
    by true e later = ap (filter (is_behind key)) (kept_by (is_behind last) branch branches e) ∙ same (is_behind key branch) refl later
    by false e later =
        ap (filter (is_behind key)) (dropped_by (is_behind last) branch branches e) ∙ later
        ∙ sym (dropped_by (is_behind key) branch branches (not_behind_on last key branch less e))

-- own branches behind an earlier key are all own branches
pub own_behind : (last key : Key) (branches : List CommittedBranch) → key_order last key ≡ Less
    → filter (has_key key) (filter (is_behind last) branches) ≡ filter (has_key key) branches
own_behind last key [] less = refl
own_behind last key (branch ∷ branches) less = by (is_behind last branch) refl (own_behind last key branches less)
  where
    same : (b : Bool) → has_key key branch ≡ b → filter (has_key key) (filter (is_behind last) branches) ≡ filter (has_key key) branches
        → filter (has_key key) (branch ∷ filter (is_behind last) branches) ≡ filter (has_key key) (branch ∷ branches)
    same true e later = kept_by (has_key key) branch _ e ∙ ap (λ (list : List CommittedBranch). branch ∷ list) later ∙ sym (kept_by (has_key key) branch branches e)
    same false e later = dropped_by (has_key key) branch _ e ∙ later ∙ sym (dropped_by (has_key key) branch branches e)

    by : (b : Bool) → is_behind last branch ≡ b → filter (has_key key) (filter (is_behind last) branches) ≡ filter (has_key key) branches
        → filter (has_key key) (filter (is_behind last) (branch ∷ branches)) ≡ filter (has_key key) (branch ∷ branches)
    by true e later = ap (filter (has_key key)) (kept_by (is_behind last) branch branches e) ∙ same (has_key key branch) refl later
    by false e later =
        ap (filter (has_key key)) (dropped_by (is_behind last) branch branches e) ∙ later
        ∙ sym (dropped_by (has_key key) branch branches (lacks_before last key branch less e))

-- ---- over all nodes

-- a feed of these branches and this bound
abbrev feed_of : List CommittedBranch → ℕ → NodeFeed
feed_of branches bound = record { branches = branches; bound = bound }

all_joined : (key : Key) (front back : List CommittedBranch) → NoneIsBelow key front → NoneIsBelow key back → NoneIsBelow key (front ++ back)
all_joined key [] back none later = later
all_joined key (branch ∷ front) back (never, none) later = (never, all_joined key front back none later)

pub fronts_are_own : (last key : Key) (feeds : List NodeFeed) → key_order last key ≡ Less → (lowest : Key) → AreOrderedFeeds lowest feeds
    → NoHeadIsBelow key (map (feed_behind last) feeds) → fronts_of key (map (feed_behind last) feeds) ≡ own_branches (fed_branches feeds) key
fronts_are_own last key [] less lowest ordered heads = refl
fronts_are_own last key (feed ∷ feeds) less lowest (is, ordered) (head, heads) =
    let order = left_in_order last feed.branches is.order in
    let here = front_is_own key (filter (is_behind last) feed.branches) order (none_below key _ order head) ∙ own_behind last key feed.branches less in
    let later = fronts_are_own last key feeds less lowest ordered heads in
    ap (λ (list : List CommittedBranch). list ++ fronts_of key (map (feed_behind last) feeds)) here
    ∙ ap (λ (list : List CommittedBranch). filter (has_key key) feed.branches ++ list) later
    ∙ sym (filter-append (has_key key) feed.branches (fed_branches feeds))

pub rests_are_behind : (last key : Key) (feeds : List NodeFeed) → key_order last key ≡ Less → (lowest : Key) → AreOrderedFeeds lowest feeds
    → NoHeadIsBelow key (map (feed_behind last) feeds) → map (without_front key) (map (feed_behind last) feeds) ≡ map (feed_behind key) feeds
rests_are_behind last key [] less lowest ordered heads = refl
rests_are_behind last key (feed ∷ feeds) less lowest (is, ordered) (head, heads) =
    let order = left_in_order last feed.branches is.order in
    let here = rest_is_behind key (filter (is_behind last) feed.branches) order (none_below key _ order head) ∙ behind_both last key feed.branches less in
    let later = rests_are_behind last key feeds less lowest ordered heads in
    ap (λ (list : List CommittedBranch). feed_of list feed.bound ∷ map (without_front key) (map (feed_behind last) feeds)) here
    ∙ ap (λ (list : List NodeFeed). feed_behind key feed ∷ list) later

-- what waits of all nodes doesn't stand below the least head
pub none_waits_below : (last key : Key) (feeds : List NodeFeed) (lowest : Key) → AreOrderedFeeds lowest feeds
    → NoHeadIsBelow key (map (feed_behind last) feeds) → NoneIsBelow key (filter (is_behind last) (fed_branches feeds))
none_waits_below last key [] lowest ordered heads = tt
none_waits_below last key (feed ∷ feeds) lowest (is, ordered) (head, heads) =
    subst (NoneIsBelow key) (sym (filter-append (is_behind last) feed.branches (fed_branches feeds)))
    (all_joined key (filter (is_behind last) feed.branches) (filter (is_behind last) (fed_branches feeds))
    (none_below key _ (left_in_order last feed.branches is.order) head) (none_waits_below last key feeds lowest ordered heads))

pub waits_of_all : (last : Key) (feeds : List NodeFeed) → fed_branches (map (feed_behind last) feeds) ≡ filter (is_behind last) (fed_branches feeds)
waits_of_all last [] = refl
waits_of_all last (feed ∷ feeds) =
    ap (λ (list : List CommittedBranch). filter (is_behind last) feed.branches ++ list) (waits_of_all last feeds)
    ∙ sym (filter-append (is_behind last) feed.branches (fed_branches feeds))
