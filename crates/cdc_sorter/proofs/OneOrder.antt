-- Branches in the order of their keys are told by the branches of each key: so those that a mark settles are the front that it settles.
use Rattle.std.proofs.Common.{◌≡◌, inl, inr, Bool, true, false, cond, ℕ, List, [], ◌∷◌, ◌++◌, filter, ap, sym, refl, ◌∙◌, subst}
use Rattle.std.specs.List.{AllByRecursion}
use Rattle.std.specs.declared.cmp.Ordering.{Ordering}
use Rattle.std.specs.declared.cmp.Ordering.TheVariants.{Less, Equal, Greater}
use Rattle.std.proofs.lemmas.List.Elements.{filter-append}
use Rattle.cdc_base.specs.declared.key.Key.{Key}
use Rattle.cdc_base.specs.Key.{key_order}
use Rattle.cdc_base.proofs.KeyOrder.{same_key}
use Rattle.cdc_model.specs.Records.{CommittedBranch}
use Rattle.cdc_model.specs.Branch.{is_settled}
use Rattle.cdc_model.specs.Transaction.{has_key}
use Rattle.cdc_model.specs.Feed.{own_branches, settled_branches}
use Rattle.cdc_model.specs.NodeReading.{StandsBefore, StandInOrder}
use Rattle.cdc_model.proofs.KeyList.{above, not_below_itself, not_both_below}
use Rattle.cdc_model.proofs.OwnBranches.{has_is, has_itself, own_with, settled_as_all, unsettled_none, settled_below}
use Rattle.cdc_sorter.specs.Waiting.{AscendByKey}
use Rattle.cdc_sorter.proofs.WaitOrder.{NoneBelow, all_above, own_none}

-- ---- one order

own_first : (branch : CommittedBranch) (branches : List CommittedBranch) → own_branches (branch ∷ branches) branch.key ≡ branch ∷ own_branches branches branch.key
own_first branch branches = own_with branch.key branch branches true (has_itself branch.key branch refl)

cond_same : {X : Type 0} (has : Bool) (x : X) (xs ys : List X) → cond has (x ∷ xs) xs ≡ cond has (x ∷ ys) ys → xs ≡ ys
cond_same true x xs ys e = cc
cond_same false x xs ys e = e

tail_same : (first : CommittedBranch) (xs ys : List CommittedBranch) (key : Key) → own_branches (first ∷ xs) key ≡ own_branches (first ∷ ys) key → own_branches xs key ≡ own_branches ys key
tail_same first xs ys key e = cond_same (has_key key first) first (own_branches xs key) (own_branches ys key) e

head_is : {X : Type 0} (x y : X) (xs ys : List X) → x ∷ xs ≡ y ∷ ys → x ≡ y
head_is x y xs ys e = cc

never_first : (first other : CommittedBranch) (xs ys : List CommittedBranch) → NoneBelow other.key ys → key_order first.key other.key ≡ Less
    → own_branches (first ∷ xs) first.key ≡ own_branches (other ∷ ys) first.key → ⊥
never_first first other xs ys none is e =
    let empty : own_branches (other ∷ ys) first.key ≡ [] = own_none first.key (other ∷ ys) (is, all_above first.key other ys is none) in
    let clash : first ∷ own_branches xs first.key ≡ [] = sym (own_first first xs) ∙ e ∙ empty in
    cc

-- two ascending lists that have the same branches of each key are one
pub one_order : (xs ys : List CommittedBranch) → AscendByKey xs → AscendByKey ys → ((key : Key) → own_branches xs key ≡ own_branches ys key) → xs ≡ ys
one_order [] [] ordered_x ordered_y same = refl
one_order [] (y ∷ ys) ordered_x ordered_y same = absurd (let clash : [] ≡ y ∷ own_branches ys y.key = same y.key ∙ own_first y ys in cc)
one_order (x ∷ xs) [] ordered_x ordered_y same = absurd (let clash : [] ≡ x ∷ own_branches xs x.key = sym (same x.key) ∙ own_first x xs in cc)
one_order (x ∷ xs) (y ∷ ys) (none_x, ordered_x) (none_y, ordered_y) same = by (key_order x.key y.key) refl (one_order xs ys ordered_x ordered_y)
  where
    equal : x ≡ y → (((key : Key) → own_branches xs key ≡ own_branches ys key) → xs ≡ ys) → x ∷ xs ≡ y ∷ ys
    equal is later =
        let rest = later (λ key. tail_same x xs ys key (same key ∙ ap (λ (b : CommittedBranch). own_branches (b ∷ ys) key) (sym is))) in
        ap (λ (b : CommittedBranch). b ∷ xs) is ∙ ap (λ (list : List CommittedBranch). y ∷ list) rest

    by : (o : Ordering) → key_order x.key y.key ≡ o → (((key : Key) → own_branches xs key ≡ own_branches ys key) → xs ≡ ys) → x ∷ xs ≡ y ∷ ys
    by Less e later = absurd (never_first x y xs ys none_y e (same x.key))
    by Equal e later =
        let has : has_key x.key y ≡ true = has_itself x.key y (same_key x.key y.key e) in
        equal (head_is x y (own_branches xs x.key) (own_branches ys x.key) (sym (own_first x xs) ∙ same x.key ∙ own_with x.key y ys true has)) later
    by Greater e later = absurd (never_first y x ys xs none_x (above x.key y.key e) (sym (same y.key)))

-- ---- the settled ones

-- whether a mark settles a branch
abbrev pub settles : ℕ → CommittedBranch → Bool
settles mark branch = is_settled mark branch.key

own_settled : (mark : ℕ) (branches : List CommittedBranch) (key : Key) → is_settled mark key ≡ true → own_branches (filter (settles mark) branches) key ≡ own_branches branches key
own_settled mark [] key settled = refl
own_settled mark (branch ∷ branches) key settled = by (settles mark branch) refl (own_settled mark branches key settled)
  where
    kept : (has : Bool) → has_key key branch ≡ has → own_branches (filter (settles mark) branches) key ≡ own_branches branches key
        → own_branches (branch ∷ filter (settles mark) branches) key ≡ own_branches (branch ∷ branches) key
    kept has e later =
        own_with key branch (filter (settles mark) branches) has e
        ∙ ap (λ (list : List CommittedBranch). cond has (branch ∷ list) list) later
        ∙ sym (own_with key branch branches has e)

    dropped : settles mark branch ≡ false → (has : Bool) → has_key key branch ≡ has → own_branches branches key ≡ own_branches (branch ∷ branches) key
    dropped unsettled true e = absurd (let is : true ≡ false = sym settled ∙ ap (is_settled mark) (has_is key branch e) ∙ unsettled in cc)
    dropped unsettled false e = sym (own_with key branch branches false e)

    by : (kept_is : Bool) → settles mark branch ≡ kept_is → own_branches (filter (settles mark) branches) key ≡ own_branches branches key
        → own_branches (cond kept_is (branch ∷ filter (settles mark) branches) (filter (settles mark) branches)) key ≡ own_branches (branch ∷ branches) key
    by true e later = kept (has_key key branch) refl later
    by false e later = later ∙ dropped e (has_key key branch) refl

own_unsettled : (mark : ℕ) (branches : List CommittedBranch) (key : Key) → is_settled mark key ≡ false → own_branches (filter (settles mark) branches) key ≡ []
own_unsettled mark [] key not = refl
own_unsettled mark (branch ∷ branches) key not = by (settles mark branch) refl (own_unsettled mark branches key not)
  where
    kept : settles mark branch ≡ true → (has : Bool) → has_key key branch ≡ has → own_branches (filter (settles mark) branches) key ≡ [] → own_branches (branch ∷ filter (settles mark) branches) key ≡ []
    kept is true e later = absurd (let clash : true ≡ false = sym is ∙ ap (is_settled mark) (sym (has_is key branch e)) ∙ not in cc)
    kept is false e later = own_with key branch (filter (settles mark) branches) false e ∙ later

    by : (kept_is : Bool) → settles mark branch ≡ kept_is → own_branches (filter (settles mark) branches) key ≡ []
        → own_branches (cond kept_is (branch ∷ filter (settles mark) branches) (filter (settles mark) branches)) key ≡ []
    by true e later = kept e (has_key key branch) refl later
    by false e later = later

none_left : (mark : ℕ) (key : Key) (branches : List CommittedBranch) → NoneBelow key branches → NoneBelow key (filter (settles mark) branches)
none_left mark key [] all = tt
none_left mark key (branch ∷ branches) (here, all) = by (settles mark branch) (none_left mark key branches all)
  where
    by : (kept : Bool) → NoneBelow key (filter (settles mark) branches) → NoneBelow key (cond kept (branch ∷ filter (settles mark) branches) (filter (settles mark) branches))
    by true later = (here, later)
    by false later = later

ascends_left : (mark : ℕ) (branches : List CommittedBranch) → AscendByKey branches → AscendByKey (filter (settles mark) branches)
ascends_left mark [] ordered = tt
ascends_left mark (branch ∷ branches) (none, ordered) = by (settles mark branch) (ascends_left mark branches ordered)
  where
    by : (kept : Bool) → AscendByKey (filter (settles mark) branches) → AscendByKey (cond kept (branch ∷ filter (settles mark) branches) (filter (settles mark) branches))
    by true later = (none_left mark branch.key branches none, later)
    by false later = later

before_none : (branch : CommittedBranch) (others : List CommittedBranch) → AllByRecursion (StandsBefore branch) others → NoneBelow branch.key others
before_none branch [] all = tt
before_none branch (other ∷ others) (here, all) = (
  λ back.
      elim here [
        | inl is ↦ not_both_below branch.key other.key is back
        | inr same ↦ not_below_itself branch.key (subst (λ (k : Key). key_order k branch.key ≡ Less) (sym same.0) back)
      ],
  before_none branch others all,
)

order_ascends : (branches : List CommittedBranch) → StandInOrder branches → AscendByKey branches
order_ascends [] ordered = tt
order_ascends (branch ∷ branches) (here, ordered) = (before_none branch branches here, order_ascends branches ordered)

-- what a mark settles of some branches is what it settles of them in the order of their keys
pub settled_is : (mark : ℕ) (committed branches : List CommittedBranch) → AscendByKey branches → StandInOrder (settled_branches mark committed)
    → ((key : Key) → own_branches branches key ≡ own_branches committed key) → settled_branches mark committed ≡ filter (settles mark) branches
settled_is mark committed branches ordered stands same =
    one_order (settled_branches mark committed) (filter (settles mark) branches) (order_ascends (settled_branches mark committed) stands) (ascends_left mark branches ordered)
    (λ key. by key (is_settled mark key) refl)
  where
    by : (key : Key) (settled : Bool) → is_settled mark key ≡ settled → own_branches (settled_branches mark committed) key ≡ own_branches (filter (settles mark) branches) key
    by key true e = settled_as_all mark committed key e ∙ sym (same key) ∙ sym (own_settled mark branches key e)
    by key false e = unsettled_none mark committed key e ∙ sym (own_unsettled mark branches key e)

-- ---- settled ones and others

pub all_settle : (mark : ℕ) (branches : List CommittedBranch) → AllByRecursion (λ (branch : CommittedBranch). is_settled mark branch.key ≡ true) branches → filter (settles mark) branches ≡ branches
all_settle mark [] all = refl
all_settle mark (branch ∷ branches) (here, all) =
    ap (λ (b : Bool). cond b (branch ∷ filter (settles mark) branches) (filter (settles mark) branches)) here
    ∙ ap (λ (list : List CommittedBranch). branch ∷ list) (all_settle mark branches all)

unsettled_later : (mark : ℕ) (first other : CommittedBranch) → is_settled mark first.key ≡ false → (key_order other.key first.key ≡ Less → ⊥) → is_settled mark other.key ≡ false
unsettled_later mark first other not none = by (is_settled mark other.key) refl
  where
    by : (settled : Bool) → is_settled mark other.key ≡ settled → is_settled mark other.key ≡ false
    by true e = absurd (none (settled_below mark other.key first.key e not))
    by false e = e

none_settles : (mark : ℕ) (first : CommittedBranch) (others : List CommittedBranch) → is_settled mark first.key ≡ false → NoneBelow first.key others → filter (settles mark) others ≡ []
none_settles mark first [] not none = refl
none_settles mark first (other ∷ others) not (here, none) =
    ap (λ (b : Bool). cond b (other ∷ filter (settles mark) others) (filter (settles mark) others)) (unsettled_later mark first other not here)
    ∙ none_settles mark first others not none

-- where the first of ascending branches isn't settled, none is
pub first_decides : (mark : ℕ) (first : CommittedBranch) (others : List CommittedBranch) → AscendByKey (first ∷ others) → is_settled mark first.key ≡ false → filter (settles mark) (first ∷ others) ≡ []
first_decides mark first others (none, ordered) not =
    ap (λ (b : Bool). cond b (first ∷ filter (settles mark) others) (filter (settles mark) others)) not ∙ none_settles mark first others not none

pub ascends_behind : (front branches : List CommittedBranch) → AscendByKey (front ++ branches) → AscendByKey branches
ascends_behind [] branches ordered = ordered
ascends_behind (first ∷ front) branches (none, ordered) = ascends_behind front branches ordered

pub settled_split : (mark : ℕ) (front branches : List CommittedBranch) → AllByRecursion (λ (branch : CommittedBranch). is_settled mark branch.key ≡ true) front
    → filter (settles mark) (front ++ branches) ≡ front ++ filter (settles mark) branches
settled_split mark front branches all =
    filter-append (settles mark) front branches ∙ ap (λ (list : List CommittedBranch). list ++ filter (settles mark) branches) (all_settle mark front all)
