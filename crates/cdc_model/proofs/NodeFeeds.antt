-- The steps of a node's feed, and the order of what it gives.
use Rattle.std.proofs.Common.{◌≡◌, ◌≤◌, ◌<◌, ℕ, ◌+◌, inl, inr, leb, Bool, true, false, cond, ◌&&◌, List, [], ◌∷◌, ◌++◌, append_assoc, append-nil, map, filter, Contains, Option, Some, None, ap, sym, subst, refl, ◌∙◌, le_refl, arith}
use Rattle.std.specs.List.{AllByRecursion, flat_map}
use Rattle.std.specs.List.Sorted.{IsStrictlySortedBy}
use Rattle.std.specs.Ordering.{is_gt}
use Rattle.std.specs.declared.cmp.Ordering.TheVariants.{Less}
use Rattle.std.proofs.lemmas.Grind.{flat_map-append}
use Rattle.std.proofs.lemmas.List.{append_cancel_left}
use Rattle.std.proofs.lemmas.List.Elements.{filter-append}
use Rattle.cdc_base.specs.declared.key.Key.{Key}
use Rattle.cdc_base.specs.declared.key.Key.TheVariants.{Shared, Plain as PlainKey}
use Rattle.cdc_base.specs.Key.{key_order}
use Rattle.cdc_model.specs.declared.entry.EntryKind.{EntryKind}
use Rattle.cdc_model.specs.declared.entry.EntryKind.TheVariants.{Prepare, OnePhase, Commit, Rollback, Plain, Beat}
use Rattle.cdc_model.specs.Records.{LogEntry, CommittedBranch, OpenBranch, Start}
use Rattle.cdc_model.specs.Start.{find_open, left_by}
use Rattle.cdc_model.specs.Watermark.{node_low_water_mark}
use Rattle.cdc_model.specs.Branch.{Begun, committed, branch_of, begun_branches, is_new, new_branches, committed_branches, is_settled}
use Rattle.cdc_model.specs.Transaction.{has_key, settled_keys}
use Rattle.cdc_model.specs.SettledOrder.{IsFront}
use Rattle.cdc_model.specs.Feed.{own_branches, settled_branches, SameUnder, NodeFeed, FeedsFrom}
use Rattle.cdc_model.specs.NodeReading.{low_behind, FeedBegins, FeedReadsOn, FeedGives, FeedTells, StandsBefore, StandInOrder, NodeSettledInOrder}
use Rattle.cdc_model.proofs.Members.{contains_first, contains_later, contains_none, contains_cases}
use Rattle.cdc_model.proofs.KeyList.{not_below_itself, below_member}
use Rattle.cdc_model.proofs.SettledKeys.{settled_sorted}
use Rattle.cdc_model.proofs.CommitLaws.{one_entry_more}
use Rattle.cdc_model.proofs.XidOrder.{all_filtered}
use Rattle.cdc_model.proofs.GrammarRows.{all_both, all_back}
use Rattle.cdc_model.proofs.Fronts.{front_same, front_on}
use Rattle.cdc_model.proofs.OwnBranches.{has_is, settled_member, member_settled, settled_on, same_settled_keys, lesser_keys, settled_branches_go_on}
use Rattle.cdc_model.proofs.FeedLaws.{unsettled_own}
use Rattle.cdc_model.proofs.SoundGrowth.{reaches_low, low_reaches, reaches_next, entry_above, new_above}
use Rattle.cdc_model.proofs.OutputGrowth.{all_unsettled}
use Rattle.cdc_model.proofs.Keeping.{all_weaker}

-- ---- the start

pub feed_begins : FeedBegins
feed_begins last start node = record {
  first = record { rest = []; is = refl };
  low = omega arith;
  told = record { rest = []; is = refl };
}

-- ---- settled branches of lists that are the same under a mark

pub same_flat : (keys : List Key) (branches others : List CommittedBranch) → ((key : Key) → Contains keys key → own_branches branches key ≡ own_branches others key)
    → flat_map (own_branches branches) keys ≡ flat_map (own_branches others) keys
same_flat [] branches others same = refl
same_flat (key ∷ keys) branches others same =
    ap (λ (list : List CommittedBranch). list ++ flat_map (own_branches branches) keys) (same key (contains_first key keys))
    ∙ ap (λ (list : List CommittedBranch). own_branches others key ++ list) (same_flat keys branches others (λ k within. same k (contains_later key keys k within)))

pub same_settled_branches : (mark : ℕ) (branches others : List CommittedBranch) → SameUnder mark branches others → settled_branches mark branches ≡ settled_branches mark others
same_settled_branches mark branches others same =
    same_flat (settled_keys mark branches) branches others (λ key within. same key (settled_member mark branches key within).0)
    ∙ ap (flat_map (own_branches others)) (same_settled_keys mark branches others same)

-- ---- one sound entry more

-- further branches that a mark doesn't settle leave the branches under it
pub more_same : (mark : ℕ) (branches more : List CommittedBranch) → AllByRecursion (λ (branch : CommittedBranch). is_settled mark branch.key ≡ false) more
    → SameUnder mark branches (branches ++ more)
more_same mark branches more above key settled =
    sym (filter-append (has_key key) branches more
    ∙ ap (λ (list : List CommittedBranch). own_branches branches key ++ list) (unsettled_own mark more key above settled)
    ∙ append-nil (own_branches branches key))

-- a feed is one of more branches, under a mark that isn't lower
pub feed_on : (mark later : ℕ) (committed more : List CommittedBranch) (feed : NodeFeed) → mark ≤ later
    → AllByRecursion (λ (branch : CommittedBranch). is_settled mark branch.key ≡ false) more
    → FeedsFrom mark committed feed → FeedsFrom later (committed ++ more) feed
feed_on mark later committed more feed h above feeds =
    let same : SameUnder mark committed (committed ++ more) = more_same mark committed more above in
    let same_low : SameUnder feed.bound committed (committed ++ more) = λ key settled. same key (settled_on feed.bound mark key feeds.low settled) in
    record {
      first =
          front_on feed.branches (settled_branches mark committed) (settled_branches later (committed ++ more)) feeds.first
          (subst (λ (list : List CommittedBranch). IsFront list (settled_branches later (committed ++ more))) (sym (same_settled_branches mark committed (committed ++ more) same))
          (settled_branches_go_on mark later (committed ++ more) h));
      low = omega (arith, feeds.low, h);
      told =
          subst (λ (list : List CommittedBranch). IsFront list feed.branches) (same_settled_branches feed.bound committed (committed ++ more) same_low) feeds.told;
    }

pub settled_goes_on : (mark later : ℕ) (branches more : List CommittedBranch) → mark ≤ later
    → AllByRecursion (λ (branch : CommittedBranch). is_settled mark branch.key ≡ false) more
    → IsFront (settled_branches mark branches) (settled_branches later (branches ++ more))
settled_goes_on mark later branches more h above =
    subst (λ (list : List CommittedBranch). IsFront list (settled_branches later (branches ++ more)))
    (sym (same_settled_branches mark branches (branches ++ more) (more_same mark branches more above)))
    (settled_branches_go_on mark later (branches ++ more) h)

pub feed_reads_on : FeedReadsOn
feed_reads_on last start node history entry sound =
    let here : Start = left_by start history in
    let mark = node_low_water_mark here in
    let more : List CommittedBranch = new_branches last start (branch_of node entry.kind here) in
    let low : mark ≤ low_behind start (entry ∷ history) =
    reaches_low mark (left_by start (entry ∷ history)) (reaches_next mark entry.kind here (low_reaches here)) in
    let above = all_unsettled mark more (new_above mark last start (branch_of node entry.kind here) (entry_above mark node entry.kind here (low_reaches here) sound)) in
    let committed : List CommittedBranch = committed_branches last start node history in
    let grown : committed_branches last start node (entry ∷ history) ≡ committed ++ more = one_entry_more last start node history entry in
    record {
      low = low;
      settled =
          subst (λ (list : List CommittedBranch). IsFront (settled_branches mark committed) (settled_branches (low_behind start (entry ∷ history)) list)) (sym grown)
          (settled_goes_on mark (low_behind start (entry ∷ history)) committed more low above);
      feeds = λ feed feeds.
          subst (λ (list : List CommittedBranch). FeedsFrom (low_behind start (entry ∷ history)) list feed) (sym grown)
          (feed_on mark (low_behind start (entry ∷ history)) committed more feed low above feeds);
    }

-- ---- a branch more, and a bound

-- the branches of a key have it
pub own_all : (P : Key → Type 0) (branches : List CommittedBranch) (key : Key) → P key → AllByRecursion (λ (branch : CommittedBranch). P branch.key) (own_branches branches key)
own_all P [] key holds = tt
own_all P (branch ∷ branches) key holds = by (has_key key branch) refl (own_all P branches key holds)
  where
    by : (has : Bool) → has_key key branch ≡ has → AllByRecursion (λ (b : CommittedBranch). P b.key) (own_branches branches key)
        → AllByRecursion (λ (b : CommittedBranch). P b.key) (cond has (branch ∷ own_branches branches key) (own_branches branches key))
    by true is later = (subst P (has_is key branch is) holds, later)
    by false is later = later

pub flat_all : (P : Key → Type 0) (branches : List CommittedBranch) (keys : List Key) → AllByRecursion P keys
    → AllByRecursion (λ (branch : CommittedBranch). P branch.key) (flat_map (own_branches branches) keys)
flat_all P branches [] all = tt
flat_all P branches (key ∷ keys) (here, all) =
    all_both (λ (branch : CommittedBranch). P branch.key) (own_branches branches key) (flat_map (own_branches branches) keys)
    (own_all P branches key here) (flat_all P branches keys all)

pub contains_behind : (list rest : List Key) (key : Key) → Contains rest key → Contains (list ++ rest) key
contains_behind [] rest key within = within
contains_behind (first ∷ list) rest key within = contains_later first (list ++ rest) key (contains_behind list rest key within)

-- no key is in both parts of an ascending list
pub apart : (front rest : List Key) (key : Key) → IsStrictlySortedBy key_order (front ++ rest) → Contains front key → Contains rest key → ⊥
unfolding IsStrictlySortedBy
apart [] rest key sorted here there = contains_none key here
apart (first ∷ front) rest key (below, sorted) here there =
    elim (contains_cases first front key here) [
      | inl same ↦
          not_below_itself key (subst (λ (k : Key). key_order k key ≡ Less) same (below_member first (front ++ rest) key below (contains_behind front rest key there)))
      | inr later ↦ apart front rest key sorted later there
    ]

pub each_unsettled : (less : ℕ) (keys : List Key) → ((key : Key) → Contains keys key → is_settled less key ≡ false) → AllByRecursion (λ (key : Key). is_settled less key ≡ false) keys
each_unsettled less [] all = tt
each_unsettled less (key ∷ keys) all = (all key (contains_first key keys), each_unsettled less keys (λ k within. all k (contains_later key keys k within)))

-- the further keys of a greater mark aren't settled under the lesser
pub rest_unsettled : (less mark : ℕ) (branches : List CommittedBranch) (rest : List Key) → settled_keys mark branches ≡ settled_keys less branches ++ rest
    → AllByRecursion (λ (key : Key). is_settled less key ≡ false) rest
rest_unsettled less mark branches rest whole = each_unsettled less rest (λ key within. by key within (is_settled less key) refl)
  where
    by : (key : Key) → Contains rest key → (b : Bool) → is_settled less key ≡ b → is_settled less key ≡ false
    by key within false e = e
    by key within true e =
        let front : List Key = settled_keys less branches in
        let member : Contains (settled_keys mark branches) key =
        subst (λ (list : List Key). Contains list key) (sym whole) (contains_behind front rest key within) in
        let lower : Contains front key = member_settled less branches key e (settled_member mark branches key member).1 in
        absurd (apart front rest key (subst (IsStrictlySortedBy key_order) whole (settled_sorted mark branches)) lower within)

pub feed_gives : FeedGives
feed_gives mark committed feed branch feeds front =
    let keys = lesser_keys feed.bound mark committed feeds.low in
    let low_settled : List CommittedBranch = settled_branches feed.bound committed in
    let further : List CommittedBranch = flat_map (own_branches committed) keys.rest in
    let whole : settled_branches mark committed ≡ low_settled ++ further =
    ap (flat_map (own_branches committed)) keys.is ∙ flat_map-append (own_branches committed) (settled_keys feed.bound committed) keys.rest in
    let above = flat_all (λ (key : Key). is_settled feed.bound key ≡ false) committed keys.rest
    (rest_unsettled feed.bound mark committed keys.rest keys.is) in
    let order : further ≡ feeds.told.rest ++ (branch ∷ front.rest) =
    append_cancel_left low_settled further (feeds.told.rest ++ (branch ∷ front.rest))
    (sym whole ∙ front.is ∙ append_assoc feed.branches (branch ∷ []) front.rest
    ∙ ap (λ (list : List CommittedBranch). list ++ (branch ∷ front.rest)) feeds.told.is
    ∙ append_assoc low_settled feeds.told.rest (branch ∷ front.rest)) in
    let higher : is_settled feed.bound branch.key ≡ false =
    (all_back (λ (b : CommittedBranch). is_settled feed.bound b.key ≡ false) feeds.told.rest (branch ∷ front.rest)
    (subst (AllByRecursion (λ (b : CommittedBranch). is_settled feed.bound b.key ≡ false)) order above)).0 in
    record {
      feeds = record {
        first = front;
        low = feeds.low;
        told = front_on low_settled feed.branches (feed.branches ++ branch ∷ []) feeds.told record { rest = branch ∷ []; is = refl };
      };
      grows = record { more = branch ∷ []; goes_on = refl; above = (higher, tt); bounded = le_refl feed.bound };
    }

pub feed_tells : FeedTells
feed_tells mark committed feed feeds all = record {
  feeds = record {
    first = feeds.first;
    low = le_refl mark;
    told = front_same (settled_branches mark committed) feed.branches (sym all);
  };
  grows = record { more = []; goes_on = sym (append-nil feed.branches); above = tt; bounded = feeds.low };
}

-- ---- the order of what is given

abbrev EntriesBelow : ℕ → List CommittedBranch → Type 0
EntriesBelow number branches = AllByRecursion (λ (branch : CommittedBranch). branch.entry < number) branches

-- the numbers of the entries that committed them ascend
abbrev AscendByEntry : List CommittedBranch → Type 0
AscendByEntry [] = Unit {0}
AscendByEntry (branch ∷ branches) = AllByRecursion (λ (other : CommittedBranch). branch.entry < other.entry) branches × AscendByEntry branches

pub given_at : (P : CommittedBranch → Type 0) (node : ℕ) (kind : EntryKind) (s : Start) → ((branch : CommittedBranch) → branch.entry ≡ s.entry → P branch)
    → AllByRecursion (λ (b : Begun). P b.1) (branch_of node kind s)
given_at P node (Prepare xid rows) s each = tt
given_at P node (OnePhase xid rows timestamp seconds) s each = (each _ refl, tt)
given_at P node (Commit xid timestamp seconds) s each = by (find_open xid s.opened)
  where
    by : (o : Option OpenBranch) → AllByRecursion (λ (b : Begun). P b.1) (committed (Shared timestamp xid.gtrid) s.entry seconds o)
    by None = tt
    by (Some branch) = (each _ refl, tt)
given_at P node (Rollback xid) s each = tt
given_at P node (Plain rows seconds) s each = (each _ refl, tt)
given_at P node (Beat timestamp) s each = tt

module _ (last : Key) (start : Start) where
  new_all : (P : CommittedBranch → Type 0) (begun : List Begun) → AllByRecursion (λ (b : Begun). P b.1) begun → AllByRecursion P (new_branches last start begun)
  new_all P [] all = tt
  new_all P (b ∷ begun) (here, all) = by (is_new last start b) (new_all P begun all)
    where
      by : (kept : Bool) → AllByRecursion P (new_branches last start begun)
          → AllByRecursion P (map (λ (x : Begun). x.1) (cond kept (b ∷ filter (is_new last start) begun) (filter (is_new last start) begun)))
      by true later = (here, later)
      by false later = later

  new_over : (begun : List Begun) → AllByRecursion (λ (branch : CommittedBranch). is_gt (key_order branch.key last) ≡ true) (new_branches last start begun)
  new_over [] = tt
  new_over (b ∷ begun) = by (leb start.entry b.0) (is_gt (key_order b.1.key last)) refl (new_over begun)
    where
      by : (first over : Bool) → is_gt (key_order b.1.key last) ≡ over
          → AllByRecursion (λ (branch : CommittedBranch). is_gt (key_order branch.key last) ≡ true) (new_branches last start begun)
          → AllByRecursion (λ (branch : CommittedBranch). is_gt (key_order branch.key last) ≡ true)
          (map (λ (x : Begun). x.1) (cond (first && over) (b ∷ filter (is_new last start) begun) (filter (is_new last start) begun)))
      by true true is later = (is, later)
      by true false is later = later
      by false over is later = later

  one_ascends : (b : Begun) → AscendByEntry (new_branches last start (b ∷ []))
  one_ascends b = by (is_new last start b)
    where
      by : (kept : Bool) → AscendByEntry (map (λ (x : Begun). x.1) (cond kept (b ∷ []) []))
      by true = (tt, tt)
      by false = tt

  given_ascends : (node : ℕ) (kind : EntryKind) (s : Start) → AscendByEntry (new_branches last start (branch_of node kind s))
  given_ascends node (Prepare xid rows) s = tt
  given_ascends node (OnePhase xid rows timestamp seconds) s =
      one_ascends (s.entry, record { key = Shared timestamp xid.gtrid; entry = s.entry; seconds = seconds; rows = rows })
  given_ascends node (Commit xid timestamp seconds) s = by (find_open xid s.opened)
    where
      by : (o : Option OpenBranch) → AscendByEntry (new_branches last start (committed (Shared timestamp xid.gtrid) s.entry seconds o))
      by None = tt
      by (Some branch) = one_ascends (branch.entry, record { key = Shared timestamp xid.gtrid; entry = s.entry; seconds = seconds; rows = branch.rows })
  given_ascends node (Rollback xid) s = tt
  given_ascends node (Plain rows seconds) s =
      one_ascends (s.entry, record { key = PlainKey s.mark node s.entry; entry = s.entry; seconds = seconds; rows = rows })
  given_ascends node (Beat timestamp) s = tt

  entries_below : (node : ℕ) (history : List LogEntry) → EntriesBelow (left_by start history).entry (committed_branches last start node history)
  entries_below node [] = tt
  entries_below node (entry ∷ earlier) =
      let here : Start = left_by start earlier in
      let given : List CommittedBranch = new_branches last start (branch_of node entry.kind here) in
      subst (EntriesBelow (here.entry + 1)) (sym (one_entry_more last start node earlier entry))
      (all_both (λ (branch : CommittedBranch). branch.entry < here.entry + 1) (committed_branches last start node earlier) given
      (all_weaker (λ (branch : CommittedBranch). branch.entry < here.entry) (λ (branch : CommittedBranch). branch.entry < here.entry + 1) (λ b h. omega (arith, h))
      (committed_branches last start node earlier) (entries_below node earlier))
      (new_all (λ (branch : CommittedBranch). branch.entry < here.entry + 1) (branch_of node entry.kind here)
      (given_at (λ (branch : CommittedBranch). branch.entry < here.entry + 1) node entry.kind here (λ b is. omega (arith, is)))))

  ascend_append : (number : ℕ) (front back : List CommittedBranch) → AscendByEntry front → EntriesBelow number front
      → AllByRecursion (λ (branch : CommittedBranch). number ≤ branch.entry) back → AscendByEntry back → AscendByEntry (front ++ back)
  ascend_append number [] back ascend below from later = later
  ascend_append number (branch ∷ front) back (first, ascend) (less, below) from later = (
    all_both (λ (other : CommittedBranch). branch.entry < other.entry) front back first
        (all_weaker (λ (other : CommittedBranch). number ≤ other.entry) (λ (other : CommittedBranch). branch.entry < other.entry) (λ other h. omega (arith, h, less)) back from),
    ascend_append number front back ascend below from later,
  )

  committed_ascend : (node : ℕ) (history : List LogEntry) → AscendByEntry (committed_branches last start node history)
  committed_ascend node [] = tt
  committed_ascend node (entry ∷ earlier) =
      let here : Start = left_by start earlier in
      let given : List CommittedBranch = new_branches last start (branch_of node entry.kind here) in
      subst AscendByEntry (sym (one_entry_more last start node earlier entry))
      (ascend_append here.entry (committed_branches last start node earlier) given (committed_ascend node earlier) (entries_below node earlier)
      (new_all (λ (branch : CommittedBranch). here.entry ≤ branch.entry) (branch_of node entry.kind here)
      (given_at (λ (branch : CommittedBranch). here.entry ≤ branch.entry) node entry.kind here (λ b is. omega (arith, is))))
      (given_ascends node entry.kind here))

-- what holds of each branch holds of those that are picked by keys
pub picked_all : (P : CommittedBranch → Type 0) (branches : List CommittedBranch) (keys : List Key) → AllByRecursion P branches
    → AllByRecursion P (flat_map (own_branches branches) keys)
picked_all P branches [] all = tt
picked_all P branches (key ∷ keys) all =
    all_both P (own_branches branches key) (flat_map (own_branches branches) keys) (all_filtered P (has_key key) branches all) (picked_all P branches keys all)

pub own_behind : (branch : CommittedBranch) (key : Key) (branches : List CommittedBranch) → key ≡ branch.key
    → AllByRecursion (λ (other : CommittedBranch). branch.entry < other.entry) branches → AllByRecursion (StandsBefore branch) (own_branches branches key)
own_behind branch key [] same all = tt
own_behind branch key (other ∷ branches) same (here, all) = by (has_key key other) refl (own_behind branch key branches same all)
  where
    by : (has : Bool) → has_key key other ≡ has → AllByRecursion (StandsBefore branch) (own_branches branches key)
        → AllByRecursion (StandsBefore branch) (cond has (other ∷ own_branches branches key) (own_branches branches key))
    by true is later = (inr (sym same ∙ has_is key other is, here), later)
    by false is later = later

pub own_in_order : (branches : List CommittedBranch) (key : Key) → AscendByEntry branches → StandInOrder (own_branches branches key)
own_in_order [] key ascend = tt
own_in_order (branch ∷ branches) key (first, ascend) = by (has_key key branch) refl (own_in_order branches key ascend)
  where
    by : (has : Bool) → has_key key branch ≡ has → StandInOrder (own_branches branches key)
        → StandInOrder (cond has (branch ∷ own_branches branches key) (own_branches branches key))
    by true is later = (own_behind branch key branches (has_is key branch is) first, later)
    by false is later = later

pub order_append : (front back : List CommittedBranch) → StandInOrder front → StandInOrder back
    → AllByRecursion (λ (branch : CommittedBranch). AllByRecursion (StandsBefore branch) back) front → StandInOrder (front ++ back)
order_append [] back first later below = later
order_append (branch ∷ front) back (here, first) later (before, below) =
    (all_both (StandsBefore branch) front back here before, order_append front back first later below)

pub below_flat : (key : Key) (branches back : List CommittedBranch) → AllByRecursion (λ (other : CommittedBranch). key_order key other.key ≡ Less) back
    → AllByRecursion (λ (branch : CommittedBranch). AllByRecursion (StandsBefore branch) back) (own_branches branches key)
below_flat key branches back all =
    all_weaker (λ (branch : CommittedBranch). AllByRecursion (λ (other : CommittedBranch). key_order branch.key other.key ≡ Less) back)
    (λ (branch : CommittedBranch). AllByRecursion (StandsBefore branch) back)
    (λ branch less. all_weaker (λ (other : CommittedBranch). key_order branch.key other.key ≡ Less) (StandsBefore branch) (λ other h. inl h) back less)
    (own_branches branches key) (own_all (λ (k : Key). AllByRecursion (λ (other : CommittedBranch). key_order k other.key ≡ Less) back) branches key all)

pub flat_in_order : (branches : List CommittedBranch) (keys : List Key) → AscendByEntry branches → IsStrictlySortedBy key_order keys
    → StandInOrder (flat_map (own_branches branches) keys)
unfolding IsStrictlySortedBy
flat_in_order branches [] ascend sorted = tt
flat_in_order branches (key ∷ keys) ascend (below, sorted) =
    order_append (own_branches branches key) (flat_map (own_branches branches) keys) (own_in_order branches key ascend)
    (flat_in_order branches keys ascend sorted)
    (below_flat key branches (flat_map (own_branches branches) keys) (flat_all (λ (other : Key). key_order key other ≡ Less) branches keys below))

pub all_settled : (mark : ℕ) (keys : List Key) → ((key : Key) → Contains keys key → is_settled mark key ≡ true) → AllByRecursion (λ (key : Key). is_settled mark key ≡ true) keys
all_settled mark [] each = tt
all_settled mark (key ∷ keys) each = (each key (contains_first key keys), all_settled mark keys (λ k within. each k (contains_later key keys k within)))

pub node_settled_in_order : NodeSettledInOrder
node_settled_in_order last mark start node history =
    let branches : List CommittedBranch = committed_branches last start node history in
    let keys = settled_keys mark branches in
    record {
      ordered = flat_in_order branches keys (committed_ascend last start node history) (settled_sorted mark branches);
      settled =
          flat_all (λ (key : Key). is_settled mark key ≡ true) branches keys
          (all_settled mark keys (λ key within. (settled_member mark branches key within).0));
      above =
          picked_all (λ (branch : CommittedBranch). is_gt (key_order branch.key last) ≡ true) branches keys
          (new_over last start (begun_branches start node history));
    }
