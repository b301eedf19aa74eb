-- The next transaction of what the nodes have given, and that there is none.
use Rattle.std.proofs.Common.{◌≡◌, ◌⊎◌, inl, inr, ℕ, suc, ◌+◌, Bool, true, false, not, List, [], ◌∷◌, ◌++◌, length, filter, Contains, ap, sym, refl, subst, ◌∙◌, arith}
use Rattle.std.specs.List.Sorted.{IsStrictlySortedBy}
use Rattle.std.specs.declared.cmp.Ordering.{Ordering}
use Rattle.std.specs.declared.cmp.Ordering.TheVariants.{Less, Equal, Greater}
use Rattle.cdc_base.specs.declared.key.Key.{Key}
use Rattle.cdc_base.specs.Key.{key_order}
use Rattle.cdc_base.proofs.KeyOrder.{key_order_total}
use Rattle.cdc_model.specs.Records.{CommittedBranch, Transaction}
use Rattle.cdc_model.specs.Branch.{is_settled}
use Rattle.cdc_model.specs.Transaction.{has_key, settled_keys, transaction_of, transactions_of, first_seconds}
use Rattle.cdc_model.specs.SettledOrder.{transactions_under}
use Rattle.cdc_model.specs.Feed.{own_branches, SameUnder}
use Rattle.cdc_model.proofs.Members.{contains_first, contains_later, contains_none, contains_cases}
use Rattle.cdc_model.proofs.KeyList.{IsBelowAll, not_below_itself}
use Rattle.cdc_model.proofs.SettledKeys.{keys_of, settled_sorted}
use Rattle.cdc_model.proofs.Fronts.{same_keys}
use Rattle.cdc_model.proofs.OwnBranches.{has_is, absent_own, settled_member, member_settled, transactions_append, same_transactions, same_branches_same_order}
use Rattle.cdc_merger.specs.Feeding.{is_behind, NoneIsBelow}
use Rattle.cdc_merger.proofs.KeyTests.{behind_less, not_behind, same_or_above}
use Rattle.cdc_merger.proofs.Heads.{kept_by, dropped_by}

-- the branches that don't stand behind a key
abbrev pub up_to : Key → List CommittedBranch → List CommittedBranch
up_to key branches = filter (λ (branch : CommittedBranch). not (is_behind key branch)) branches

up_kept : (key : Key) (branch : CommittedBranch) (branches : List CommittedBranch) → is_behind key branch ≡ false → up_to key (branch ∷ branches) ≡ branch ∷ up_to key branches
up_kept key branch branches e = kept_by (λ (b : CommittedBranch). not (is_behind key b)) branch branches (ap not e)

up_dropped : (key : Key) (branch : CommittedBranch) (branches : List CommittedBranch) → is_behind key branch ≡ true → up_to key (branch ∷ branches) ≡ up_to key branches
up_dropped key branch branches e = dropped_by (λ (b : CommittedBranch). not (is_behind key b)) branch branches (ap not e)

-- the branches of a key that isn't behind another are there
pub own_up_to : (last key : Key) (branches : List CommittedBranch) → (key_order last key ≡ Less → ⊥) → own_branches (up_to last branches) key ≡ own_branches branches key
own_up_to last key [] never = refl
own_up_to last key (branch ∷ branches) never = by (is_behind last branch) refl (own_up_to last key branches never)
  where
    same : (b : Bool) → has_key key branch ≡ b → own_branches (up_to last branches) key ≡ own_branches branches key
        → own_branches (branch ∷ up_to last branches) key ≡ own_branches (branch ∷ branches) key
    same true e later = kept_by (has_key key) branch _ e ∙ ap (λ (list : List CommittedBranch). branch ∷ list) later ∙ sym (kept_by (has_key key) branch branches e)
    same false e later = dropped_by (has_key key) branch _ e ∙ later ∙ sym (dropped_by (has_key key) branch branches e)

    lacks : (b : Bool) → has_key key branch ≡ b → is_behind last branch ≡ true → has_key key branch ≡ false
    lacks true has e = absurd (never (subst (λ (k : Key). key_order last k ≡ Less) (sym (has_is key branch has)) (behind_less last branch e)))
    lacks false has e = has

    by : (b : Bool) → is_behind last branch ≡ b → own_branches (up_to last branches) key ≡ own_branches branches key
        → own_branches (up_to last (branch ∷ branches)) key ≡ own_branches (branch ∷ branches) key
    by false e later = ap (λ (list : List CommittedBranch). own_branches list key) (up_kept last branch branches e) ∙ same (has_key key branch) refl later
    by true e later =
        ap (λ (list : List CommittedBranch). own_branches list key) (up_dropped last branch branches e) ∙ later
        ∙ sym (dropped_by (has_key key) branch branches (lacks (has_key key branch) refl e))

-- which keys are there
pub up_to_member : (last : Key) (branches : List CommittedBranch) (key : Key) → Contains (keys_of (up_to last branches)) key
    → Contains (keys_of branches) key × (key_order last key ≡ Less → ⊥)
up_to_member last [] key within = absurd (contains_none key within)
up_to_member last (branch ∷ branches) key within = by (is_behind last branch) refl (up_to_member last branches key)
  where
    by : (b : Bool) → is_behind last branch ≡ b → (Contains (keys_of (up_to last branches)) key → Contains (keys_of branches) key × (key_order last key ≡ Less → ⊥))
        → Contains (keys_of (branch ∷ branches)) key × (key_order last key ≡ Less → ⊥)
    by true e later =
        let found = later (subst (λ (list : List CommittedBranch). Contains (keys_of list) key) (up_dropped last branch branches e) within) in
        (contains_later branch.key (keys_of branches) key found.0, found.1)
    by false e later =
        elim (contains_cases branch.key (keys_of (up_to last branches)) key
        (subst (λ (list : List CommittedBranch). Contains (keys_of list) key) (up_kept last branch branches e) within)) [
          | inl is ↦ (
            subst (Contains (keys_of (branch ∷ branches))) is (contains_first branch.key (keys_of branches)),
            subst (λ (k : Key). key_order last k ≡ Less → ⊥) is (not_behind last branch e),
          )
          | inr deeper ↦ let found = later deeper in (contains_later branch.key (keys_of branches) key found.0, found.1)
        ]

pub member_up_to : (last : Key) (branches : List CommittedBranch) (key : Key) → Contains (keys_of branches) key → (key_order last key ≡ Less → ⊥)
    → Contains (keys_of (up_to last branches)) key
member_up_to last [] key within never = absurd (contains_none key within)
member_up_to last (branch ∷ branches) key within never = by (is_behind last branch) refl (λ (deeper : Contains (keys_of branches) key). member_up_to last branches key deeper never)
  where
    by : (b : Bool) → is_behind last branch ≡ b → (Contains (keys_of branches) key → Contains (keys_of (up_to last branches)) key) → Contains (keys_of (up_to last (branch ∷ branches))) key
    by true e later =
        subst (λ (list : List CommittedBranch). Contains (keys_of list) key) (sym (up_dropped last branch branches e))
        (elim (contains_cases branch.key (keys_of branches) key within) [
          | inl is ↦ absurd (never (subst (λ (k : Key). key_order last k ≡ Less) is (behind_less last branch e)))
          | inr deeper ↦ later deeper
        ])
    by false e later =
        subst (λ (list : List CommittedBranch). Contains (keys_of list) key) (sym (up_kept last branch branches e))
        (elim (contains_cases branch.key (keys_of branches) key within) [
          | inl is ↦ subst (Contains (branch.key ∷ keys_of (up_to last branches))) is (contains_first branch.key (keys_of (up_to last branches)))
          | inr deeper ↦ contains_later branch.key (keys_of (up_to last branches)) key (later deeper)
        ])

-- a key that some branch behind another has
pub waiting_member : (last : Key) (branches : List CommittedBranch) (key : Key) → Contains (keys_of (filter (is_behind last) branches)) key
    → Contains (keys_of branches) key × (key_order last key ≡ Less)
waiting_member last [] key within = absurd (contains_none key within)
waiting_member last (branch ∷ branches) key within = by (is_behind last branch) refl (waiting_member last branches key)
  where
    by : (b : Bool) → is_behind last branch ≡ b → (Contains (keys_of (filter (is_behind last) branches)) key → Contains (keys_of branches) key × (key_order last key ≡ Less))
        → Contains (keys_of (branch ∷ branches)) key × (key_order last key ≡ Less)
    by false e later =
        let found = later (subst (λ (list : List CommittedBranch). Contains (keys_of list) key) (dropped_by (is_behind last) branch branches e) within) in
        (contains_later branch.key (keys_of branches) key found.0, found.1)
    by true e later =
        elim (contains_cases branch.key (keys_of (filter (is_behind last) branches)) key
        (subst (λ (list : List CommittedBranch). Contains (keys_of list) key) (kept_by (is_behind last) branch branches e) within)) [
          | inl is ↦ (
            subst (Contains (keys_of (branch ∷ branches))) is (contains_first branch.key (keys_of branches)),
            subst (λ (k : Key). key_order last k ≡ Less) is (behind_less last branch e),
          )
          | inr deeper ↦ let found = later deeper in (contains_later branch.key (keys_of branches) key found.0, found.1)
        ]

pub member_waiting : (last : Key) (branches : List CommittedBranch) (key : Key) → Contains (keys_of branches) key → key_order last key ≡ Less
    → Contains (keys_of (filter (is_behind last) branches)) key
member_waiting last [] key within less = absurd (contains_none key within)
member_waiting last (branch ∷ branches) key within less = by (is_behind last branch) refl (λ (deeper : Contains (keys_of branches) key). member_waiting last branches key deeper less)
  where
    by : (b : Bool) → is_behind last branch ≡ b → (Contains (keys_of branches) key → Contains (keys_of (filter (is_behind last) branches)) key)
        → Contains (keys_of (filter (is_behind last) (branch ∷ branches))) key
    by false e later =
        subst (λ (list : List CommittedBranch). Contains (keys_of list) key) (sym (dropped_by (is_behind last) branch branches e))
        (elim (contains_cases branch.key (keys_of branches) key within) [
          | inl is ↦ absurd (not_behind last branch e (subst (λ (k : Key). key_order last k ≡ Less) (sym is) less))
          | inr deeper ↦ later deeper
        ])
    by true e later =
        subst (λ (list : List CommittedBranch). Contains (keys_of list) key) (sym (kept_by (is_behind last) branch branches e))
        (elim (contains_cases branch.key (keys_of branches) key within) [
          | inl is ↦ subst (Contains (branch.key ∷ keys_of (filter (is_behind last) branches))) is (contains_first branch.key (keys_of (filter (is_behind last) branches)))
          | inr deeper ↦ contains_later branch.key (keys_of (filter (is_behind last) branches)) key (later deeper)
        ])

pub none_below_member : (low : Key) (branches : List CommittedBranch) (key : Key) → NoneIsBelow low branches → Contains (keys_of branches) key → key_order key low ≡ Less → ⊥
none_below_member low [] key none within less = contains_none key within
none_below_member low (branch ∷ branches) key (never, none) within less = elim (contains_cases branch.key (keys_of branches) key within) [
  | inl is ↦ never (subst (λ (k : Key). key_order k low ≡ Less) (sym is) less)
  | inr deeper ↦ none_below_member low branches key none deeper less
]

-- ---- ascending keys with a greater one behind them

in_front : (keys : List Key) (key other : Key) → Contains keys other → Contains (keys ++ key ∷ []) other
in_front [] key other within = absurd (contains_none other within)
in_front (first ∷ keys) key other within = elim (contains_cases first keys other within) [
  | inl is ↦ subst (Contains (first ∷ keys ++ key ∷ [])) is (contains_first first (keys ++ key ∷ []))
  | inr deeper ↦ contains_later first (keys ++ key ∷ []) other (in_front keys key other deeper)
]

at_end : (keys : List Key) (key : Key) → Contains (keys ++ key ∷ []) key
at_end [] key = contains_first key []
at_end (first ∷ keys) key = contains_later first (keys ++ key ∷ []) key (at_end keys key)

front_or_end : (keys : List Key) (key other : Key) → Contains (keys ++ key ∷ []) other → Contains keys other ⊎ (key ≡ other)
front_or_end [] key other within = elim (contains_cases key [] other within) [ inl is ↦ inr is | inr none ↦ absurd (contains_none other none) ]
front_or_end (first ∷ keys) key other within = elim (contains_cases first (keys ++ key ∷ []) other within) [
  | inl is ↦ inl (subst (Contains (first ∷ keys)) is (contains_first first keys))
  | inr deeper ↦ elim (front_or_end keys key other deeper) [ inl here ↦ inl (contains_later first keys other here) | inr is ↦ inr is ]
]

below_with_end : (low : Key) (keys : List Key) (key : Key) → IsBelowAll low keys → key_order low key ≡ Less → IsBelowAll low (keys ++ key ∷ [])
below_with_end low [] key all less = (less, tt)
below_with_end low (first ∷ keys) key (is, all) less = (is, below_with_end low keys key all less)

sorted_with_end : (keys : List Key) (key : Key) → IsStrictlySortedBy key_order keys → ((other : Key) → Contains keys other → key_order other key ≡ Less)
    → IsStrictlySortedBy key_order (keys ++ key ∷ [])
unfolding IsStrictlySortedBy
sorted_with_end [] key sorted below = (tt, tt)
sorted_with_end (first ∷ keys) key (is, sorted) below = (
  below_with_end first keys key is (below first (contains_first first keys)),
  sorted_with_end keys key sorted (λ other within. below other (contains_later first keys other within)),
)

no_both : (b : Bool) → b ≡ true → b ≡ false → ⊥
no_both b yes_it no_it = cc

-- a key is below another, or it isn't
pub decided : (a b : Key) → (key_order a b ≡ Less) ⊎ (key_order a b ≡ Less → ⊥)
decided a b = by (key_order a b) refl
  where
    by : (o : Ordering) → key_order a b ≡ o → (key_order a b ≡ Less) ⊎ (key_order a b ≡ Less → ⊥)
    by Less e = inl e
    by Equal e = inr (λ (less : key_order a b ≡ Less). let bad : Equal ≡ Less = sym e ∙ less in cc)
    by Greater e = inr (λ (less : key_order a b ≡ Less). let bad : Greater ≡ Less = sym e ∙ less in cc)

both_none : (last key : Key) (branches : List CommittedBranch) → key_order last key ≡ Less → (Contains (keys_of branches) key → ⊥)
    → own_branches (up_to last branches) key ≡ own_branches branches key
both_none last key branches less never =
    absent_own (up_to last branches) key (λ (within : Contains (keys_of (up_to last branches)) key). never (up_to_member last branches key within).0)
    ∙ sym (absent_own branches key never)

-- a transaction with these branches
abbrev pub transaction_with : ℕ → Key → List CommittedBranch → Transaction
transaction_with number key own = record { number = number; key = key; seconds = first_seconds own; branches = own }

pub many_transactions : (branches : List CommittedBranch) (number : ℕ) (keys : List Key) → length (transactions_of branches number keys) ≡ length keys
many_transactions branches number [] = refl
many_transactions branches number (key ∷ keys) = ap (λ (n : ℕ). suc n) (many_transactions branches (number + 1) keys)

own_same : (mark : ℕ) (branches : List CommittedBranch) (last key other : Key) → key_order last key ≡ Less
    → Contains (settled_keys mark (up_to last branches)) other → own_branches (up_to key branches) other ≡ own_branches (up_to last branches) other
own_same mark branches last key other less within =
    let is = settled_member mark (up_to last branches) other within in
    let never = (up_to_member last branches other is.1).1 in
    own_up_to key other branches (λ (above : key_order key other ≡ Less). never (key_order_total.trans last key other less above))
    ∙ sym (own_up_to last other branches never)

-- ---- the next transaction

-- the settled keys up to the next one are those up to the last one, and the next one
pub next_keys : (mark : ℕ) (branches : List CommittedBranch) (last key : Key) → is_settled mark key ≡ true
    → Contains (keys_of (filter (is_behind last) branches)) key → NoneIsBelow key (filter (is_behind last) branches)
    → settled_keys mark (up_to key branches) ≡ settled_keys mark (up_to last branches) ++ key ∷ []
next_keys mark branches last key settled waits none =
    same_keys (settled_keys mark (up_to key branches)) (settled_keys mark (up_to last branches) ++ key ∷ [])
    (settled_sorted mark (up_to key branches))
    (sorted_with_end (settled_keys mark (up_to last branches)) key (settled_sorted mark (up_to last branches)) below)
    forth back
  where
    found : Contains (keys_of branches) key × (key_order last key ≡ Less)
    found = waiting_member last branches key waits

    below : (other : Key) → Contains (settled_keys mark (up_to last branches)) other → key_order other key ≡ Less
    below other within =
        let here = settled_member mark (up_to last branches) other within in
        by_last other (up_to_member last branches other here.1).1
      where
        by_last : (other : Key) → (key_order last other ≡ Less → ⊥) → key_order other key ≡ Less
        by_last other never = elim (same_or_above other last never) [
          | inl same ↦ subst (λ (k : Key). key_order k key ≡ Less) (sym same) found.1
          | inr less ↦ key_order_total.trans other last key less found.1
        ]

    forth : (other : Key) → Contains (settled_keys mark (up_to key branches)) other → Contains (settled_keys mark (up_to last branches) ++ key ∷ []) other
    forth other within =
        let here = settled_member mark (up_to key branches) other within in
        let there = up_to_member key branches other here.1 in
        by here.0 there.0 there.1 (decided last other)
      where
        by : is_settled mark other ≡ true → Contains (keys_of branches) other → (key_order key other ≡ Less → ⊥)
            → (key_order last other ≡ Less) ⊎ (key_order last other ≡ Less → ⊥) → Contains (settled_keys mark (up_to last branches) ++ key ∷ []) other
        by is within never (inl less) =
            elim (same_or_above key other (none_below_member key (filter (is_behind last) branches) other none (member_waiting last branches other within less))) [
              | inl same ↦ subst (Contains (settled_keys mark (up_to last branches) ++ key ∷ [])) same (at_end (settled_keys mark (up_to last branches)) key)
              | inr above ↦ absurd (never above)
            ]
        by is within never (inr still) =
            in_front (settled_keys mark (up_to last branches)) key other (member_settled mark (up_to last branches) other is (member_up_to last branches other within still))

    back : (other : Key) → Contains (settled_keys mark (up_to last branches) ++ key ∷ []) other → Contains (settled_keys mark (up_to key branches)) other
    back other within = elim (front_or_end (settled_keys mark (up_to last branches)) key other within) [
      | inl here ↦
          let is = settled_member mark (up_to last branches) other here in
          let there = up_to_member last branches other is.1 in
          member_settled mark (up_to key branches) other is.0
          (member_up_to key branches other there.0 (λ (less : key_order key other ≡ Less). there.1 (key_order_total.trans last key other found.1 less)))
      | inr same ↦
          subst (Contains (settled_keys mark (up_to key branches))) same
          (member_settled mark (up_to key branches) key settled (member_up_to key branches key found.0 (λ (less : key_order key key ≡ Less). not_below_itself key less)))
    ]

pub next_given : (count mark : ℕ) (branches : List CommittedBranch) (last key : Key) (gave : List Transaction) → is_settled mark key ≡ true
    → Contains (keys_of (filter (is_behind last) branches)) key → NoneIsBelow key (filter (is_behind last) branches)
    → transactions_under count mark (up_to last branches) ≡ gave
    → transactions_under count mark (up_to key branches) ≡ gave ++ transaction_of branches (count + length gave + 1) key ∷ []
next_given count mark branches last key gave settled waits none is =
    let keys = settled_keys mark (up_to last branches) in
    let less = (waiting_member last branches key waits).1 in
    let first = ap (transactions_of (up_to key branches) (count + 1)) (next_keys mark branches last key settled waits none) in
    let split = transactions_append (up_to key branches) (count + 1) keys (key ∷ []) in
    let front = same_transactions (up_to key branches) (up_to last branches) (count + 1) keys
    (λ (other : Key) (within : Contains (settled_keys mark (up_to last branches)) other). own_same mark branches last key other less within) in
    let many : length gave ≡ length keys = sym (ap length is) ∙ many_transactions (up_to last branches) (count + 1) keys in
    let number : count + 1 + length keys ≡ count + length gave + 1 = omega arith in
    let own = own_up_to key key branches (not_below_itself key) in
    first ∙ split
    ∙ ap (λ (list : List Transaction). list ++ transactions_of (up_to key branches) (count + 1 + length keys) (key ∷ [])) (front ∙ is)
    ∙ ap (λ (n : ℕ). gave ++ transaction_of (up_to key branches) n key ∷ []) number
    ∙ ap (λ (list : List CommittedBranch). gave ++ transaction_with (count + length gave + 1) key list ∷ []) own

-- ---- that there is none

-- what a mark settles of the branches is among those up to a key, where nothing behind it is settled
pub none_left : (count mark : ℕ) (branches : List CommittedBranch) (last : Key)
    → ((key : Key) → Contains (keys_of (filter (is_behind last) branches)) key → is_settled mark key ≡ false)
    → transactions_under count mark (up_to last branches) ≡ transactions_under count mark branches
none_left count mark branches last unsettled = same_branches_same_order count mark (up_to last branches) branches same
  where
    same : SameUnder mark (up_to last branches) branches
    same key settled = by (decided last key)
      where
        by : (key_order last key ≡ Less) ⊎ (key_order last key ≡ Less → ⊥) → own_branches (up_to last branches) key ≡ own_branches branches key
        by (inr never) = own_up_to last key branches never
        by (inl less) = both_none last key branches less (λ (within : Contains (keys_of branches) key). no_both (is_settled mark key) settled (unsettled key (member_waiting last branches key within less)))
