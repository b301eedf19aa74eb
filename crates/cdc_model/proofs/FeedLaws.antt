-- What nodes have given, merged under the least of their bounds, is a front of the global order.
use Rattle.std.proofs.Common.{◌≡◌, ◌≤◌, ℕ, ◌+◌, min, inl, inr, Bool, true, false, cond, List, [], ◌∷◌, ◌++◌, append_assoc, append-nil, map, Contains, ap, sym, subst, refl, ◌∙◌, le_refl, arith}
use Rattle.std.specs.List.{AllByRecursion, AllZip, flat_map, enumerate_from}
use Rattle.cdc_base.specs.declared.key.Key.{Key}
use Rattle.cdc_model.specs.declared.node_log.NodeLog.{NodeLog}
use Rattle.cdc_model.specs.Records.{CommittedBranch, Transaction}
use Rattle.cdc_model.specs.Watermark.{least, low_water_mark, node_low_water_mark}
use Rattle.cdc_model.specs.Soundness.{reached}
use Rattle.cdc_model.specs.Branch.{is_settled}
use Rattle.cdc_model.specs.Transaction.{has_key, first_seconds, transactions_of, settled_keys, node_branches, all_branches, logs_low_water_mark, ordered_transactions}
use Rattle.cdc_model.specs.SettledOrder.{transactions_under, SettledOrderIsExact, HasFirstSeconds, SecondsAreTheFirsts}
use Rattle.cdc_model.specs.Feed.{own_branches, settled_branches, SameUnder, NodeFeed, least_bound, fed_branches, merged_transactions, FeedsFrom, FeedGrows, AreFeedsOf, AreToldOf, FeedsMergeToOrder, LaterFeedsGoOn}
use Rattle.cdc_model.proofs.GlobalOrder.{ordered}
use Rattle.cdc_model.proofs.Members.{contains_first, contains_later, contains_none, contains_cases}
use Rattle.cdc_model.proofs.SameXid.{no_test}
use Rattle.cdc_model.proofs.Fronts.{front_same, front_on, nothing_behind}
use Rattle.cdc_model.proofs.OwnBranches.{has_is, own_append, HasFirst, present_own, settled_member, settled_on, settled_as_all, same_branches_same_order, lesser_mark_settles_a_front}

-- ---- the order of any branches

pub settled_order_is_exact : SettledOrderIsExact
settled_order_is_exact count mark branches = ordered count mark branches

pub dated_first : (branches : List CommittedBranch) (number : ℕ) (keys : List Key) → ((key : Key) → Contains keys key → HasFirst branches key)
    → (txn : Transaction) → Contains (transactions_of branches number keys) txn → HasFirstSeconds txn
dated_first branches number [] some txn within = absurd (contains_none txn within)
dated_first branches number (key ∷ keys) some txn within =
    elim (contains_cases _ (transactions_of branches (number + 1) keys) txn within) [
      | inl is ↦
          let has = some key (contains_first key keys) in
          subst HasFirstSeconds is record { first = has.first; others = has.others; in_order = has.is; dated = ap first_seconds has.is }
      | inr later ↦ dated_first branches (number + 1) keys (λ k member. some k (contains_later key keys k member)) txn later
    ]

pub seconds_are_the_firsts : SecondsAreTheFirsts
seconds_are_the_firsts count mark branches txn within =
    dated_first branches (count + 1) (settled_keys mark branches)
    (λ key member. present_own branches key (settled_member mark branches key member).1) txn within

-- ---- the least of some numbers

pub least_below : (most low : ℕ) (numbers : List ℕ) → most ≤ low → least most numbers ≤ low
least_below most low [] h = h
least_below most low (number ∷ numbers) h = least_below (min most number) low numbers (omega (arith, h))

pub least_first : (most : ℕ) (numbers : List ℕ) → least most numbers ≤ most
least_first most numbers = least_below most most numbers (le_refl most)

pub least_each : (most : ℕ) (numbers : List ℕ) → AllByRecursion (λ (number : ℕ). least most numbers ≤ number) numbers
least_each most [] = tt
least_each most (number ∷ numbers) =
    (least_below (min most number) number numbers (omega arith), least_each (min most number) numbers)

pub lowest_each : (numbers : List ℕ) → AllByRecursion (λ (number : ℕ). low_water_mark numbers ≤ number) numbers
lowest_each [] = tt
lowest_each (number ∷ numbers) = (least_first number numbers, least_each number numbers)

pub least_lower : (most more : ℕ) (lows highs : List ℕ) → most ≤ more → AllZip (λ (low high : ℕ). low ≤ high) lows highs → least most lows ≤ least more highs
least_lower most more [] [] h all = h
least_lower most more [] (high ∷ highs) h all = absurd all
least_lower most more (low ∷ lows) [] h all = absurd all
least_lower most more (low ∷ lows) (high ∷ highs) h (here, all) = least_lower (min most low) (min more high) lows highs (omega (arith, h, here)) all

pub lowest_lower : (lows highs : List ℕ) → AllZip (λ (low high : ℕ). low ≤ high) lows highs → low_water_mark lows ≤ low_water_mark highs
lowest_lower [] [] all = le_refl 0
lowest_lower [] (high ∷ highs) all = absurd all
lowest_lower (low ∷ lows) [] all = absurd all
lowest_lower (low ∷ lows) (high ∷ highs) (here, all) = least_lower low high lows highs here all

pub zip_map : {X Y : Type 0} (f : X → ℕ) (g : Y → ℕ) (xs : List X) (ys : List Y) → AllZip (λ (x : X) (y : Y). f x ≤ g y) xs ys
    → AllZip (λ (low high : ℕ). low ≤ high) (map f xs) (map g ys)
zip_map f g [] [] all = tt
zip_map f g [] (y ∷ ys) all = absurd all
zip_map f g (x ∷ xs) [] all = absurd all
zip_map f g (x ∷ xs) (y ∷ ys) (here, all) = (here, zip_map f g xs ys all)

pub zip_weaker : {X Y : Type 0} (R S : X → Y → Type 0) → ((x : X) (y : Y) → R x y → S x y) → (xs : List X) (ys : List Y) → AllZip R xs ys → AllZip S xs ys
zip_weaker R S weaker [] [] all = tt
zip_weaker R S weaker [] (y ∷ ys) all = absurd all
zip_weaker R S weaker (x ∷ xs) [] all = absurd all
zip_weaker R S weaker (x ∷ xs) (y ∷ ys) (here, all) = (weaker x y here, zip_weaker R S weaker xs ys all)

pub all_mapped : {X : Type 0} (f : X → ℕ) (low : ℕ) (xs : List X) → AllByRecursion (λ (n : ℕ). low ≤ n) (map f xs) → AllByRecursion (λ (x : X). low ≤ f x) xs
all_mapped f low [] all = tt
all_mapped f low (x ∷ xs) (here, all) = (here, all_mapped f low xs all)

-- ---- one feed

-- a feed has the branches that its bound settles
pub fed_as_all : (mark : ℕ) (committed : List CommittedBranch) (feed : NodeFeed) → FeedsFrom mark committed feed → SameUnder feed.bound feed.branches committed
fed_as_all mark committed feed from key settled =
    let told : own_branches feed.branches key ≡ own_branches committed key ++ own_branches from.told.rest key =
    ap (λ (list : List CommittedBranch). own_branches list key) from.told.is
    ∙ own_append key (settled_branches feed.bound committed) from.told.rest
    ∙ ap (λ (list : List CommittedBranch). list ++ own_branches from.told.rest key) (settled_as_all feed.bound committed key settled) in
    let all : own_branches committed key ≡ own_branches feed.branches key ++ own_branches from.first.rest key =
    sym (settled_as_all mark committed key (settled_on feed.bound mark key from.low settled))
    ∙ ap (λ (list : List CommittedBranch). own_branches list key) from.first.is
    ∙ own_append key feed.branches from.first.rest in
    let none : own_branches from.told.rest key ++ own_branches from.first.rest key ≡ [] =
    nothing_behind (own_branches committed key) (own_branches from.told.rest key ++ own_branches from.first.rest key)
    (all ∙ ap (λ (list : List CommittedBranch). list ++ own_branches from.first.rest key) told
    ∙ append_assoc (own_branches committed key) (own_branches from.told.rest key) (own_branches from.first.rest key)) in
    told ∙ ap (λ (list : List CommittedBranch). own_branches committed key ++ list) (first_none (own_branches from.told.rest key) (own_branches from.first.rest key) none)
    ∙ append-nil (own_branches committed key)
  where
    first_none : (xs ys : List CommittedBranch) → xs ++ ys ≡ [] → xs ≡ []
    first_none [] ys is = refl
    first_none (x ∷ xs) ys is = absurd (cc)

-- further branches that a bound doesn't settle add none under a key that it settles
pub unsettled_own : (bound : ℕ) (more : List CommittedBranch) (key : Key) → AllByRecursion (λ (branch : CommittedBranch). is_settled bound branch.key ≡ false) more
    → is_settled bound key ≡ true → own_branches more key ≡ []
unsettled_own bound [] key all settled = refl
unsettled_own bound (branch ∷ more) key (here, all) settled = by (has_key key branch) refl (unsettled_own bound more key all settled)
  where
    by : (b : Bool) → has_key key branch ≡ b → own_branches more key ≡ [] → own_branches (branch ∷ more) key ≡ []
    by true is later = absurd (no_test (sym here ∙ ap (is_settled bound) (sym (has_is key branch is)) ∙ settled))
    by false is later = ap (λ (b : Bool). cond b (branch ∷ own_branches more key) (own_branches more key)) is ∙ later

pub grown_as_old : (old new : NodeFeed) → FeedGrows old new → SameUnder old.bound old.branches new.branches
grown_as_old old new grows key settled =
    sym (ap (λ (list : List CommittedBranch). own_branches list key) grows.goes_on
    ∙ own_append key old.branches grows.more
    ∙ ap (λ (list : List CommittedBranch). own_branches old.branches key ++ list) (unsettled_own old.bound grows.more key grows.above settled)
    ∙ append-nil (own_branches old.branches key))

-- ---- all feeds

pub same_joined : (key : Key) (front back other rest : List CommittedBranch) → own_branches front key ≡ own_branches other key
    → own_branches back key ≡ own_branches rest key → own_branches (front ++ back) key ≡ own_branches (other ++ rest) key
same_joined key front back other rest p q =
    own_append key front back
    ∙ ap (λ (list : List CommittedBranch). list ++ own_branches back key) p
    ∙ ap (λ (list : List CommittedBranch). own_branches other key ++ list) q
    ∙ sym (own_append key other rest)

-- lists of branches, node by node, that are the same under a mark are so all together
pub same_together : {X Y : Type 0} (f : X → List CommittedBranch) (g : Y → List CommittedBranch) (mark : ℕ) (xs : List X) (ys : List Y)
    → AllZip (λ (x : X) (y : Y). SameUnder mark (f x) (g y)) xs ys → SameUnder mark (flat_map f xs) (flat_map g ys)
same_together f g mark [] [] all key settled = refl
same_together f g mark [] (y ∷ ys) all key settled = absurd all
same_together f g mark (x ∷ xs) [] all key settled = absurd all
same_together f g mark (x ∷ xs) (y ∷ ys) (here, all) key settled =
    same_joined key (f x) (flat_map f xs) (g y) (flat_map g ys) (here key settled) (same_together f g mark xs ys all key settled)

-- a fact on each second element, and a relation
pub zip_with : {X Y : Type 0} (R : X → Y → Type 0) (P : Y → Type 0) (xs : List X) (ys : List Y) → AllByRecursion P ys → AllZip R xs ys
    → AllZip (λ (x : X) (y : Y). R x y × P y) xs ys
zip_with R P [] [] each all = tt
zip_with R P [] (y ∷ ys) each all = absurd all
zip_with R P (x ∷ xs) [] each all = absurd all
zip_with R P (x ∷ xs) (y ∷ ys) (first, each) (here, all) = ((here, first), zip_with R P xs ys each all)

pub zip_with_first : {X Y : Type 0} (R : X → Y → Type 0) (P : X → Type 0) (xs : List X) (ys : List Y) → AllByRecursion P xs → AllZip R xs ys
    → AllZip (λ (x : X) (y : Y). R x y × P x) xs ys
zip_with_first R P [] [] each all = tt
zip_with_first R P [] (y ∷ ys) each all = absurd all
zip_with_first R P (x ∷ xs) [] each all = absurd all
zip_with_first R P (x ∷ xs) (y ∷ ys) (first, each) (here, all) = ((here, first), zip_with_first R P xs ys each all)

pub zip_turned : {X Y : Type 0} (R : X → Y → Type 0) (xs : List X) (ys : List Y) → AllZip R xs ys → AllZip (λ (y : Y) (x : X). R x y) ys xs
zip_turned R [] [] all = tt
zip_turned R [] (y ∷ ys) all = absurd all
zip_turned R (x ∷ xs) [] all = absurd all
zip_turned R (x ∷ xs) (y ∷ ys) (here, all) = (here, zip_turned R xs ys all)

-- the marks of numbered logs are those of the logs
pub numbered_marks : (number : ℕ) (logs : List NodeLog)
    → map (λ (node : ℕ × NodeLog). node_low_water_mark (reached node.1)) (enumerate_from number logs) ≡ map (λ (log : NodeLog). node_low_water_mark (reached log)) logs
numbered_marks number [] = refl
numbered_marks number (log ∷ logs) =
    ap (λ (list : List ℕ). node_low_water_mark (reached log) ∷ list) (numbered_marks (number + 1) logs)

pub told_marks : (logs : List NodeLog) (feeds : List NodeFeed) → AreToldOf logs feeds
    → map (λ (feed : NodeFeed). feed.bound) feeds ≡ map (λ (log : NodeLog). node_low_water_mark (reached log)) logs
told_marks [] [] all = refl
told_marks [] (feed ∷ feeds) all = absurd all
told_marks (log ∷ logs) [] all = absurd all
told_marks (log ∷ logs) (feed ∷ feeds) (here, all) =
    ap (λ (list : List ℕ). feed.bound ∷ list) (told_marks logs feeds all)
    ∙ ap (λ (n : ℕ). n ∷ map (λ (log : NodeLog). node_low_water_mark (reached log)) logs) here

module _ (last : Key) (logs : List NodeLog) (feeds : List NodeFeed) (are : AreFeedsOf last logs feeds) where
  fed_same : SameUnder (least_bound feeds) (fed_branches feeds) (all_branches last logs)
  fed_same key settled =
      sym (same_together (node_branches last) (λ (feed : NodeFeed). feed.branches) (least_bound feeds) (enumerate_from 1 logs) feeds
      (zip_weaker
      (λ (node : ℕ × NodeLog) (feed : NodeFeed). FeedsFrom (node_low_water_mark (reached node.1)) (node_branches last node) feed × (least_bound feeds ≤ feed.bound))
      (λ (node : ℕ × NodeLog) (feed : NodeFeed). SameUnder (least_bound feeds) (node_branches last node) feed.branches)
      (λ node feed both k is. sym (fed_as_all (node_low_water_mark (reached node.1)) (node_branches last node) feed both.0 k (settled_on (least_bound feeds) feed.bound k both.1 is)))
      (enumerate_from 1 logs) feeds
      (zip_with (λ (node : ℕ × NodeLog) (feed : NodeFeed). FeedsFrom (node_low_water_mark (reached node.1)) (node_branches last node) feed)
      (λ (feed : NodeFeed). least_bound feeds ≤ feed.bound) (enumerate_from 1 logs) feeds
      (all_mapped (λ (feed : NodeFeed). feed.bound) (least_bound feeds) feeds (lowest_each (map (λ (feed : NodeFeed). feed.bound) feeds))) are))
      key settled)

  bounds_low : least_bound feeds ≤ logs_low_water_mark logs
  bounds_low =
      subst (λ (marks : List ℕ). least_bound feeds ≤ low_water_mark marks) (numbered_marks 1 logs)
      (lowest_lower (map (λ (feed : NodeFeed). feed.bound) feeds) (map (λ (node : ℕ × NodeLog). node_low_water_mark (reached node.1)) (enumerate_from 1 logs))
      (zip_map (λ (feed : NodeFeed). feed.bound) (λ (node : ℕ × NodeLog). node_low_water_mark (reached node.1)) feeds (enumerate_from 1 logs)
      (zip_weaker
      (λ (feed : NodeFeed) (node : ℕ × NodeLog). FeedsFrom (node_low_water_mark (reached node.1)) (node_branches last node) feed)
      (λ (feed : NodeFeed) (node : ℕ × NodeLog). feed.bound ≤ node_low_water_mark (reached node.1))
      (λ feed node from. from.low) feeds (enumerate_from 1 logs)
      (zip_turned (λ (node : ℕ × NodeLog) (feed : NodeFeed). FeedsFrom (node_low_water_mark (reached node.1)) (node_branches last node) feed) (enumerate_from 1 logs) feeds are))))

pub feeds_merge_to_order : FeedsMergeToOrder
feeds_merge_to_order count last logs feeds are =
    let same = same_branches_same_order count (least_bound feeds) (fed_branches feeds) (all_branches last logs) (fed_same last logs feeds are) in
    record {
      front =
          front_on (merged_transactions count feeds) (transactions_under count (least_bound feeds) (all_branches last logs)) (ordered_transactions count last logs)
          (front_same (merged_transactions count feeds) (transactions_under count (least_bound feeds) (all_branches last logs)) same)
          (lesser_mark_settles_a_front count (least_bound feeds) (logs_low_water_mark logs) (all_branches last logs) (bounds_low last logs feeds are));
      whole = λ told. same ∙ ap (λ (marks : List ℕ). transactions_under count (low_water_mark marks) (all_branches last logs)) (told_marks logs feeds told);
    }

pub later_feeds_go_on : LaterFeedsGoOn
later_feeds_go_on count olds news grow =
    let low = least_bound olds in
    let high : low ≤ least_bound news =
    lowest_lower (map (λ (feed : NodeFeed). feed.bound) olds) (map (λ (feed : NodeFeed). feed.bound) news)
    (zip_map (λ (feed : NodeFeed). feed.bound) (λ (feed : NodeFeed). feed.bound) olds news
    (zip_weaker FeedGrows (λ (old new : NodeFeed). old.bound ≤ new.bound) (λ old new grows. grows.bounded) olds news grow)) in
    let same : SameUnder low (fed_branches olds) (fed_branches news) =
    same_together (λ (feed : NodeFeed). feed.branches) (λ (feed : NodeFeed). feed.branches) low olds news
    (zip_weaker (λ (old new : NodeFeed). FeedGrows old new × (low ≤ old.bound)) (λ (old new : NodeFeed). SameUnder low old.branches new.branches)
    (λ old new both key settled. grown_as_old old new both.0 key (settled_on low old.bound key both.1 settled)) olds news
    (zip_with_first FeedGrows (λ (old : NodeFeed). low ≤ old.bound) olds news
    (all_mapped (λ (feed : NodeFeed). feed.bound) low olds (lowest_each (map (λ (feed : NodeFeed). feed.bound) olds))) grow)) in
    front_on (merged_transactions count olds) (transactions_under count low (fed_branches news)) (merged_transactions count news)
    (front_same (merged_transactions count olds) (transactions_under count low (fed_branches news))
    (same_branches_same_order count low (fed_branches olds) (fed_branches news) same))
    (lesser_mark_settles_a_front count low (least_bound news) (fed_branches news) high)
