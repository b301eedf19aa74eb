-- The branches of each key, and the lists that have the same ones under a mark.
use Rattle.std.proofs.Common.{◌≡◌, ◌⊎◌, ◌≤◌, ◌<◌, ℕ, ◌+◌, inl, inr, Bool, true, false, IsTrue, cond, List, [], ◌∷◌, ◌++◌, length, append-nil, Contains, ap, sym, subst, refl, ◌∙◌, arith}
use Rattle.std.specs.List.{flat_map}
use Rattle.std.specs.List.Sorted.{IsStrictlySortedBy}
use Rattle.std.specs.Ordering.{nat_cmp, ordering_then, ordering_reverse, is_eq}
use Rattle.std.specs.declared.cmp.Ordering.{Ordering}
use Rattle.std.specs.declared.cmp.Ordering.TheVariants.{Less, Equal, Greater}
use Rattle.std.proofs.lemmas.Bool.{leb-true, leb-false, ltb-true, ltb-false, le-leb, lt-ltb, cases_lt}
use Rattle.std.proofs.lemmas.Bool.Decides.{nat_tests}
use Rattle.std.proofs.lemmas.List.Elements.{filter-append}
use Rattle.cdc_base.specs.declared.key.Key.{Key}
use Rattle.cdc_base.specs.declared.key.Key.TheVariants.{Shared, Plain as PlainKey}
use Rattle.cdc_base.specs.Key.{key_order}
use Rattle.cdc_base.proofs.KeyOrder.{key_order_total, same_key}
use Rattle.cdc_model.specs.Records.{CommittedBranch, Transaction}
use Rattle.cdc_model.specs.Branch.{is_settled}
use Rattle.cdc_model.specs.Transaction.{settled_keys, has_key, first_seconds, transaction_of, transactions_of}
use Rattle.cdc_model.specs.SettledOrder.{IsFront, LesserMarkSettlesAFront}
use Rattle.cdc_model.specs.Feed.{own_branches, settled_branches, SameUnder, SameBranchesSameOrder, SettledBranchesGoOn}
use Rattle.cdc_model.proofs.Members.{contains_first, contains_later, contains_none, contains_cases}
use Rattle.cdc_model.proofs.KeyList.{not_below_itself, below_member}
use Rattle.cdc_model.proofs.SettledKeys.{keys_of, settled_sorted, in_settled}
use Rattle.cdc_model.proofs.SameXid.{no_test}
use Rattle.cdc_model.proofs.Fronts.{front_flat_map, IsAboveEach, ascending_front, same_keys}

-- ---- a branch and its key

pub tied_by : (o : Ordering) → is_eq o ≡ true → o ≡ Equal
tied_by Less e = absurd (no_test e)
tied_by Equal e = refl
tied_by Greater e = absurd (no_test e)

pub has_is : (key : Key) (branch : CommittedBranch) → has_key key branch ≡ true → key ≡ branch.key
has_is key branch e = same_key key branch.key (tied_by (key_order key branch.key) e)

pub ties_itself : (key : Key) (o : Ordering) → key_order key key ≡ o → is_eq o ≡ true
ties_itself key Less is = absurd (not_below_itself key is)
ties_itself key Equal is = refl
ties_itself key Greater is =
    absurd (let back : Greater ≡ Less = sym is ∙ key_order_total.antisymm key key ∙ ap ordering_reverse is in cc)

pub has_itself : (key : Key) (branch : CommittedBranch) → key ≡ branch.key → has_key key branch ≡ true
has_itself key branch is = ap (λ (k : Key). is_eq (key_order key k)) (sym is) ∙ ties_itself key (key_order key key) refl

-- ---- the branches of a key

pub own_append : (key : Key) (front back : List CommittedBranch) → own_branches (front ++ back) key ≡ own_branches front key ++ own_branches back key
own_append key front back = filter-append (has_key key) front back

pub own_with : (key : Key) (branch : CommittedBranch) (branches : List CommittedBranch) (has : Bool) → has_key key branch ≡ has
    → own_branches (branch ∷ branches) key ≡ cond has (branch ∷ own_branches branches key) (own_branches branches key)
own_with key branch branches has is = ap (λ (b : Bool). cond b (branch ∷ own_branches branches key) (own_branches branches key)) is

-- a key that some branch has has a first branch
pub record HasFirst (branches : List CommittedBranch) (key : Key) : Type 0 where
  pub first : CommittedBranch
  pub others : List CommittedBranch
  pub is : own_branches branches key ≡ first ∷ others

pub present_own : (branches : List CommittedBranch) (key : Key) → Contains (keys_of branches) key → HasFirst branches key
present_own [] key within = absurd (contains_none key within)
present_own (branch ∷ branches) key within = by (has_key key branch) refl (contains_cases branch.key (keys_of branches) key within) (present_own branches key)
  where
    by : (has : Bool) → has_key key branch ≡ has → (branch.key ≡ key) ⊎ Contains (keys_of branches) key → (Contains (keys_of branches) key → HasFirst branches key)
        → HasFirst (branch ∷ branches) key
    by true is cases later = record { first = branch; others = own_branches branches key; is = own_with key branch branches true is }
    by false is (inl same) later = absurd (no_test (sym is ∙ has_itself key branch (sym same)))
    by false is (inr within) later =
        let found = later within in
        record { first = found.first; others = found.others; is = own_with key branch branches false is ∙ found.is }

pub own_present : (branches : List CommittedBranch) (key : Key) (first : CommittedBranch) (others : List CommittedBranch)
    → own_branches branches key ≡ first ∷ others → Contains (keys_of branches) key
own_present [] key first others is = absurd (cc)
own_present (branch ∷ branches) key first others is = by (has_key key branch) refl (own_present branches key first others)
  where
    by : (has : Bool) → has_key key branch ≡ has → (own_branches branches key ≡ first ∷ others → Contains (keys_of branches) key)
        → Contains (keys_of (branch ∷ branches)) key
    by true has later = subst (Contains (branch.key ∷ keys_of branches)) (sym (has_is key branch has)) (contains_first branch.key (keys_of branches))
    by false has later = contains_later branch.key (keys_of branches) key (later (sym (own_with key branch branches false has) ∙ is))

pub absent_own : (branches : List CommittedBranch) (key : Key) → (Contains (keys_of branches) key → ⊥) → own_branches branches key ≡ []
absent_own branches key never = by (own_branches branches key) refl
  where
    by : (own : List CommittedBranch) → own_branches branches key ≡ own → own_branches branches key ≡ []
    by [] is = is
    by (first ∷ others) is = absurd (never (own_present branches key first others is))

pub present_as : (branches others : List CommittedBranch) (key : Key) → own_branches branches key ≡ own_branches others key
    → Contains (keys_of branches) key → Contains (keys_of others) key
present_as branches others key same within =
    let found = present_own branches key within in own_present others key found.first found.others (sym same ∙ found.is)

-- ---- marks and keys

pub test_is : (b : Bool) → IsTrue b → b ≡ true
test_is true t = refl
test_is false t = absurd (cc)

pub is_test : (b : Bool) → b ≡ true → IsTrue b
is_test true e = refl
is_test false e = absurd (no_test e)

pub settled_on : (less mark : ℕ) (key : Key) → less ≤ mark → is_settled less key ≡ true → is_settled mark key ≡ true
settled_on less mark (Shared timestamp gtrid) h e = le-leb timestamp mark (omega (arith, leb-true timestamp less e))
settled_on less mark (PlainKey timestamp node entry) h e = lt-ltb timestamp mark (omega (arith, ltb-true timestamp less e))

pub unsettled_on : (less mark : ℕ) (key : Key) → less ≤ mark → is_settled mark key ≡ false → is_settled less key ≡ false
unsettled_on less mark key h e = by (is_settled less key) refl
  where
    by : (b : Bool) → is_settled less key ≡ b → is_settled less key ≡ false
    by true is = absurd (no_test (sym e ∙ settled_on less mark key h is))
    by false is = is

pub lesser_time : (a b : ℕ) (rest : Ordering) → a < b → ordering_then (nat_cmp a b) rest ≡ Less
lesser_time a b rest h =
    let is : nat_cmp a b ≡ Less = grind (arith, nat_tests, h) in
    ap (λ (o : Ordering). ordering_then o rest) is

pub same_time : (a b : ℕ) (rest : Ordering) → a ≡ b → rest ≡ Less → ordering_then (nat_cmp a b) rest ≡ Less
same_time a b rest e is =
    let tie : nat_cmp a b ≡ Equal = grind (arith, nat_tests, e) in
    ap (λ (o : Ordering). ordering_then o rest) tie ∙ is

-- a mark cuts the order of keys: what it settles is below what it doesn't
pub settled_below : (mark : ℕ) (low high : Key) → is_settled mark low ≡ true → is_settled mark high ≡ false → key_order low high ≡ Less
settled_below mark (Shared a g) (Shared b h) low high =
    lesser_time a b _ (omega (arith, leb-true a mark low, leb-false b mark high))
settled_below mark (Shared a g) (PlainKey b node entry) low high =
    elim (cases_lt a b) [
      | inl less ↦ lesser_time a b _ less
      | inr more ↦ same_time a b _ (omega (arith, leb-true a mark low, ltb-false b mark high)) refl
    ]
settled_below mark (PlainKey a node entry) (Shared b h) low high =
    lesser_time a b _ (omega (arith, ltb-true a mark low, leb-false b mark high))
settled_below mark (PlainKey a node entry) (PlainKey b other number) low high =
    lesser_time a b _ (omega (arith, ltb-true a mark low, ltb-false b mark high))

-- ---- the settled keys

pub settled_member : (mark : ℕ) (branches : List CommittedBranch) (key : Key) → Contains (settled_keys mark branches) key
    → (is_settled mark key ≡ true) × Contains (keys_of branches) key
settled_member mark branches key within =
    let settled = (in_settled mark branches key).0 within in (test_is (is_settled mark key) settled.0, settled.1)

pub member_settled : (mark : ℕ) (branches : List CommittedBranch) (key : Key) → is_settled mark key ≡ true → Contains (keys_of branches) key
    → Contains (settled_keys mark branches) key
member_settled mark branches key settled within = (in_settled mark branches key).1 (is_test (is_settled mark key) settled, within)

pub keys_among : (mark : ℕ) (branches others : List CommittedBranch) → SameUnder mark branches others
    → (key : Key) → Contains (settled_keys mark branches) key → Contains (settled_keys mark others) key
keys_among mark branches others same key within =
    let is = settled_member mark branches key within in
    member_settled mark others key is.0 (present_as branches others key (same key is.0) is.1)

pub same_settled_keys : (mark : ℕ) (branches others : List CommittedBranch) → SameUnder mark branches others
    → settled_keys mark branches ≡ settled_keys mark others
same_settled_keys mark branches others same =
    same_keys (settled_keys mark branches) (settled_keys mark others) (settled_sorted mark branches) (settled_sorted mark others)
    (keys_among mark branches others same) (keys_among mark others branches (λ key settled. sym (same key settled)))

pub above_each : (mark : ℕ) (keys : List Key) (key : Key) → ((k : Key) → Contains keys k → is_settled mark k ≡ true) → is_settled mark key ≡ false
    → IsAboveEach keys key
above_each mark [] key settled not = tt
above_each mark (first ∷ keys) key settled not = (
  settled_below mark first key (settled first (contains_first first keys)) not,
  above_each mark keys key (λ k within. settled k (contains_later first keys k within)) not,
)

pub lesser_keys : (less mark : ℕ) (branches : List CommittedBranch) → less ≤ mark → IsFront (settled_keys less branches) (settled_keys mark branches)
lesser_keys less mark branches h =
    ascending_front (settled_keys less branches) (settled_keys mark branches) (settled_sorted less branches) (settled_sorted mark branches)
    (λ key within. let is = settled_member less branches key within in member_settled mark branches key (settled_on less mark key h is.0) is.1)
    (λ key within. by key (is_settled less key) refl (settled_member mark branches key within).1)
  where
    by : (key : Key) (b : Bool) → is_settled less key ≡ b → Contains (keys_of branches) key
        → Contains (settled_keys less branches) key ⊎ IsAboveEach (settled_keys less branches) key
    by key true is within = inl (member_settled less branches key is within)
    by key false is within = inr (above_each less (settled_keys less branches) key (λ k member. (settled_member less branches k member).0) is)

-- ---- transactions

pub transactions_append : (branches : List CommittedBranch) (number : ℕ) (front back : List Key)
    → transactions_of branches number (front ++ back) ≡ transactions_of branches number front ++ transactions_of branches (number + length front) back
transactions_append branches number [] back = ap (λ (n : ℕ). transactions_of branches n back) (omega arith)
transactions_append branches number (key ∷ front) back =
    ap (λ (list : List Transaction). transaction_of branches number key ∷ list) (transactions_append branches (number + 1) front back
    ∙ ap (λ (n : ℕ). transactions_of branches (number + 1) front ++ transactions_of branches n back) (omega arith))

abbrev made_of : ℕ → Key → List CommittedBranch → Transaction
made_of number key own = record { number = number; key = key; seconds = first_seconds own; branches = own }

pub same_transactions : (branches others : List CommittedBranch) (number : ℕ) (keys : List Key)
    → ((key : Key) → Contains keys key → own_branches branches key ≡ own_branches others key)
    → transactions_of branches number keys ≡ transactions_of others number keys
same_transactions branches others number [] same = refl
same_transactions branches others number (key ∷ keys) same =
    let behind = same_transactions branches others (number + 1) keys (λ k within. same k (contains_later key keys k within)) in
    let own = same key (contains_first key keys) in
    ap (λ (list : List Transaction). transaction_of branches number key ∷ list) behind
    ∙ ap (λ (list : List CommittedBranch). made_of number key list ∷ transactions_of others (number + 1) keys) own

-- law: the same branches under a mark, the same transactions under it
pub same_branches_same_order : SameBranchesSameOrder
same_branches_same_order count mark branches others same =
    same_transactions branches others (count + 1) (settled_keys mark branches) (λ key within. same key (settled_member mark branches key within).0)
    ∙ ap (transactions_of others (count + 1)) (same_settled_keys mark branches others same)

pub lesser_mark_settles_a_front : LesserMarkSettlesAFront
lesser_mark_settles_a_front count less mark branches h =
    let keys = lesser_keys less mark branches h in
    record {
      rest = transactions_of branches (count + 1 + length (settled_keys less branches)) keys.rest;
      is = ap (transactions_of branches (count + 1)) keys.is ∙ transactions_append branches (count + 1) (settled_keys less branches) keys.rest;
    }

pub settled_branches_go_on : SettledBranchesGoOn
settled_branches_go_on less mark branches h =
    front_flat_map (own_branches branches) (settled_keys less branches) (settled_keys mark branches) (lesser_keys less mark branches h)

-- ---- the branches of settled branches

-- those of a key among those of another
pub own_of_own : (branches : List CommittedBranch) (key other : Key) → (key ≡ other → ⊥) → own_branches (own_branches branches other) key ≡ []
own_of_own [] key other differs = refl
own_of_own (branch ∷ branches) key other differs = by (has_key other branch) refl (own_of_own branches key other differs)
  where
    apart : has_key other branch ≡ true → (b : Bool) → has_key key branch ≡ b → has_key key branch ≡ false
    apart has true is = absurd (differs (has_is key branch is ∙ sym (has_is other branch has)))
    apart has false is = is

    by : (has : Bool) → has_key other branch ≡ has → own_branches (own_branches branches other) key ≡ [] → own_branches (own_branches (branch ∷ branches) other) key ≡ []
    by true is later =
        ap (λ (list : List CommittedBranch). own_branches list key) (own_with other branch branches true is)
        ∙ own_with key branch (own_branches branches other) false (apart is (has_key key branch) refl) ∙ later
    by false is later = ap (λ (list : List CommittedBranch). own_branches list key) (own_with other branch branches false is) ∙ later

pub own_of_same : (branches : List CommittedBranch) (key : Key) → own_branches (own_branches branches key) key ≡ own_branches branches key
own_of_same [] key = refl
own_of_same (branch ∷ branches) key = by (has_key key branch) refl (own_of_same branches key)
  where
    by : (has : Bool) → has_key key branch ≡ has → own_branches (own_branches branches key) key ≡ own_branches branches key
        → own_branches (own_branches (branch ∷ branches) key) key ≡ own_branches (branch ∷ branches) key
    by true is later =
        ap (λ (list : List CommittedBranch). own_branches list key) (own_with key branch branches true is)
        ∙ own_with key branch (own_branches branches key) true is
        ∙ ap (λ (list : List CommittedBranch). branch ∷ list) later ∙ sym (own_with key branch branches true is)
    by false is later =
        ap (λ (list : List CommittedBranch). own_branches list key) (own_with key branch branches false is)
        ∙ later ∙ sym (own_with key branch branches false is)

pub own_elsewhere : (branches : List CommittedBranch) (keys : List Key) (key : Key) → (Contains keys key → ⊥)
    → own_branches (flat_map (own_branches branches) keys) key ≡ []
own_elsewhere branches [] key never = refl
own_elsewhere branches (first ∷ keys) key never =
    own_append key (own_branches branches first) (flat_map (own_branches branches) keys)
    ∙ ap (λ (list : List CommittedBranch). list ++ own_branches (flat_map (own_branches branches) keys) key)
    (own_of_own branches key first (λ is. never (subst (Contains (first ∷ keys)) (sym is) (contains_first first keys))))
    ∙ own_elsewhere branches keys key (λ within. never (contains_later first keys key within))

pub own_once : (branches : List CommittedBranch) (keys : List Key) (key : Key) → IsStrictlySortedBy key_order keys → Contains keys key
    → own_branches (flat_map (own_branches branches) keys) key ≡ own_branches branches key
unfolding IsStrictlySortedBy
own_once branches [] key sorted within = absurd (contains_none key within)
own_once branches (first ∷ keys) key (below, sorted) within = by (contains_cases first keys key within) (own_once branches keys key sorted)
  where
    here : own_branches (flat_map (own_branches branches) (first ∷ keys)) key
        ≡ own_branches (own_branches branches first) key ++ own_branches (flat_map (own_branches branches) keys) key
    here = own_append key (own_branches branches first) (flat_map (own_branches branches) keys)

    by : (first ≡ key) ⊎ Contains keys key → (Contains keys key → own_branches (flat_map (own_branches branches) keys) key ≡ own_branches branches key)
        → own_branches (flat_map (own_branches branches) (first ∷ keys)) key ≡ own_branches branches key
    by (inl is) later =
        here
        ∙ ap (λ (list : List CommittedBranch). own_branches (own_branches branches first) key ++ list)
        (own_elsewhere branches keys key (λ member. not_below_itself key (subst (λ (k : Key). key_order k key ≡ Less) is (below_member first keys key below member))))
        ∙ append-nil (own_branches (own_branches branches first) key)
        ∙ ap (λ (k : Key). own_branches (own_branches branches k) key) is
        ∙ own_of_same branches key
    by (inr member) later =
        here
        ∙ ap (λ (list : List CommittedBranch). list ++ own_branches (flat_map (own_branches branches) keys) key)
        (own_of_own branches key first (λ is. not_below_itself first (subst (λ (k : Key). key_order first k ≡ Less) is (below_member first keys key below member))))
        ∙ later member

-- settled branches have the same branches as all under each key that their mark settles
pub settled_as_all : (mark : ℕ) (branches : List CommittedBranch) → SameUnder mark (settled_branches mark branches) branches
settled_as_all mark branches key settled = by (own_branches branches key) refl
  where
    by : (own : List CommittedBranch) → own_branches branches key ≡ own → own_branches (settled_branches mark branches) key ≡ own_branches branches key
    by (first ∷ others) is =
        own_once branches (settled_keys mark branches) key (settled_sorted mark branches)
        (member_settled mark branches key settled (own_present branches key first others is))
    by [] is =
        own_elsewhere branches (settled_keys mark branches) key
        (λ within. let found = present_own branches key (settled_member mark branches key within).1 in
        let none : [] ≡ found.first ∷ found.others = sym is ∙ found.is in cc)
        ∙ sym is

-- no branch of a key that isn't settled is among them
pub unsettled_none : (mark : ℕ) (branches : List CommittedBranch) (key : Key) → is_settled mark key ≡ false
    → own_branches (settled_branches mark branches) key ≡ []
unsettled_none mark branches key not =
    own_elsewhere branches (settled_keys mark branches) key (λ within. no_test (sym not ∙ (settled_member mark branches key within).0))
