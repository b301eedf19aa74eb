-- A branch more among those that wait.
use Rattle.std.proofs.Common.{◌≡◌, Bool, true, false, cond, List, [], ◌∷◌, ◌++◌, append-nil, ap, sym, refl, ◌∙◌, subst}
use Rattle.std.specs.List.{AllByRecursion}
use Rattle.std.specs.Ordering.{is_lt}
use Rattle.std.specs.declared.cmp.Ordering.{Ordering}
use Rattle.std.specs.declared.cmp.Ordering.TheVariants.{Less, Equal, Greater}
use Rattle.cdc_base.specs.declared.key.Key.{Key}
use Rattle.cdc_base.specs.Key.{key_order}
use Rattle.cdc_base.proofs.KeyOrder.{key_order_total, same_key}
use Rattle.cdc_model.specs.Records.{CommittedBranch}
use Rattle.cdc_model.specs.Transaction.{has_key}
use Rattle.cdc_model.specs.Feed.{own_branches}
use Rattle.cdc_model.proofs.KeyList.{above, not_below_itself, not_both_below}
use Rattle.cdc_model.proofs.OwnBranches.{has_is, own_with}
use Rattle.cdc_waiting.specs.Waiting.{wait_behind}
use Rattle.cdc_sorter.specs.Waiting.{AscendByKey}

-- branches whose keys aren't below one
abbrev pub NoneBelow : Key → List CommittedBranch → Type 0
NoneBelow key branches = AllByRecursion (λ (other : CommittedBranch). key_order other.key key ≡ Less → ⊥) branches

pub less_is : (o : Ordering) → is_lt o ≡ true → o ≡ Less
less_is Less e = refl
less_is Equal e = absurd (cc)
less_is Greater e = absurd (cc)

pub not_less : (o : Ordering) → is_lt o ≡ false → o ≡ Less → ⊥
not_less Less e is = cc
not_less Equal e is = cc
not_less Greater e is = cc

pub no_less : (o : Ordering) → (o ≡ Less → ⊥) → is_lt o ≡ false
no_less Less never = absurd (never refl)
no_less Equal never = refl
no_less Greater never = refl

-- what is below a first key is below all that aren't below that one
pub below_all : (low first other : Key) → key_order low first ≡ Less → (key_order other first ≡ Less → ⊥) → key_order low other ≡ Less
below_all low first other is never = by (key_order other first) refl
  where
    by : (o : Ordering) → key_order other first ≡ o → key_order low other ≡ Less
    by Less e = absurd (never e)
    by Equal e = subst (λ (k : Key). key_order low k ≡ Less) (sym (same_key other first e)) is
    by Greater e = key_order_total.trans low first other is (above other first e)

-- branches above a key are none of its
pub own_none : (key : Key) (branches : List CommittedBranch) → AllByRecursion (λ (other : CommittedBranch). key_order key other.key ≡ Less) branches → own_branches branches key ≡ []
own_none key [] all = refl
own_none key (branch ∷ branches) (here, all) = by (has_key key branch) refl (own_none key branches all)
  where
    by : (has : Bool) → has_key key branch ≡ has → own_branches branches key ≡ [] → own_branches (branch ∷ branches) key ≡ []
    by true e later = absurd (not_below_itself key (subst (λ (k : Key). key_order key k ≡ Less) (sym (has_is key branch e)) here))
    by false e later = own_with key branch branches false e ∙ later

-- what is below the first of ascending branches is below all
pub all_above : (low : Key) (first : CommittedBranch) (rest : List CommittedBranch) → key_order low first.key ≡ Less → NoneBelow first.key rest
    → AllByRecursion (λ (other : CommittedBranch). key_order low other.key ≡ Less) rest
all_above low first [] is none = tt
all_above low first (other ∷ rest) is (here, none) = (below_all low first.key other.key is here, all_above low first rest is none)

-- keys above one aren't below it
none_below : (key : Key) (branches : List CommittedBranch) → AllByRecursion (λ (other : CommittedBranch). key_order key other.key ≡ Less) branches → NoneBelow key branches
none_below key [] all = tt
none_below key (branch ∷ branches) (here, all) = (λ back. not_both_below key branch.key here back, none_below key branches all)

none_below_wait : (key : Key) (rest : List CommittedBranch) (branch : CommittedBranch) → (key_order branch.key key ≡ Less → ⊥) → NoneBelow key rest → NoneBelow key (wait_behind rest branch)
none_below_wait key [] branch never all = (never, tt)
none_below_wait key (first ∷ rest) branch never (here, all) = by (is_lt (key_order branch.key first.key)) (none_below_wait key rest branch never all)
  where
    by : (before : Bool) → NoneBelow key (wait_behind rest branch) → NoneBelow key (cond before (branch ∷ first ∷ rest) (first ∷ wait_behind rest branch))
    by true later = (never, (here, all))
    by false later = (here, later)

-- those that wait stay in order
pub wait_ascends : (waiting : List CommittedBranch) (branch : CommittedBranch) → AscendByKey waiting → AscendByKey (wait_behind waiting branch)
wait_ascends [] branch ordered = (tt, tt)
wait_ascends (first ∷ rest) branch (none, ordered) = by (is_lt (key_order branch.key first.key)) refl (wait_ascends rest branch ordered)
  where
    by : (before : Bool) → is_lt (key_order branch.key first.key) ≡ before → AscendByKey (wait_behind rest branch)
        → AscendByKey (cond before (branch ∷ first ∷ rest) (first ∷ wait_behind rest branch))
    by true e later =
        let is = less_is (key_order branch.key first.key) e in
        ((λ back. not_both_below branch.key first.key is back, none_below branch.key rest (all_above branch.key first rest is none)), (none, ordered))
    by false e later = (none_below_wait first.key rest branch (not_less (key_order branch.key first.key) e) none, later)

-- those of one key stand as they came
pub wait_own : (waiting : List CommittedBranch) (branch : CommittedBranch) (key : Key) → AscendByKey waiting
    → own_branches (wait_behind waiting branch) key ≡ own_branches waiting key ++ own_branches (branch ∷ []) key
wait_own [] branch key ordered = refl
wait_own (first ∷ rest) branch key (none, ordered) = by (is_lt (key_order branch.key first.key)) refl (wait_own rest branch key ordered)
  where
    at_front : key_order branch.key first.key ≡ Less → (has : Bool) → has_key key branch ≡ has
        → own_branches (branch ∷ first ∷ rest) key ≡ own_branches (first ∷ rest) key ++ own_branches (branch ∷ []) key
    at_front is true e =
        let here : key_order key first.key ≡ Less = subst (λ (k : Key). key_order k first.key ≡ Less) (sym (has_is key branch e)) is in
        let empty : own_branches (first ∷ rest) key ≡ [] = own_none key (first ∷ rest) (here, all_above key first rest here none) in
        own_with key branch (first ∷ rest) true e
        ∙ ap (λ (list : List CommittedBranch). branch ∷ list) empty
        ∙ sym (own_with key branch [] true e)
        ∙ ap (λ (list : List CommittedBranch). list ++ own_branches (branch ∷ []) key) (sym empty)
    at_front is false e =
        own_with key branch (first ∷ rest) false e
        ∙ sym (append-nil (own_branches (first ∷ rest) key))
        ∙ ap (λ (list : List CommittedBranch). own_branches (first ∷ rest) key ++ list) (sym (own_with key branch [] false e))

    behind : (has : Bool) → has_key key first ≡ has → own_branches (wait_behind rest branch) key ≡ own_branches rest key ++ own_branches (branch ∷ []) key
        → own_branches (first ∷ wait_behind rest branch) key ≡ own_branches (first ∷ rest) key ++ own_branches (branch ∷ []) key
    behind true e later =
        own_with key first (wait_behind rest branch) true e
        ∙ ap (λ (list : List CommittedBranch). first ∷ list) later
        ∙ ap (λ (list : List CommittedBranch). list ++ own_branches (branch ∷ []) key) (sym (own_with key first rest true e))
    behind false e later =
        own_with key first (wait_behind rest branch) false e
        ∙ later
        ∙ ap (λ (list : List CommittedBranch). list ++ own_branches (branch ∷ []) key) (sym (own_with key first rest false e))

    by : (before : Bool) → is_lt (key_order branch.key first.key) ≡ before
        → own_branches (wait_behind rest branch) key ≡ own_branches rest key ++ own_branches (branch ∷ []) key
        → own_branches (cond before (branch ∷ first ∷ rest) (first ∷ wait_behind rest branch)) key ≡ own_branches (first ∷ rest) key ++ own_branches (branch ∷ []) key
    by true e later = at_front (less_is (key_order branch.key first.key) e) (has_key key branch) refl
    by false e later = behind (has_key key first) refl later

-- a branch passes those whose keys aren't above its own
pub wait_passes : (gave waiting : List CommittedBranch) (branch : CommittedBranch) → AllByRecursion (λ (other : CommittedBranch). key_order branch.key other.key ≡ Less → ⊥) gave
    → wait_behind (gave ++ waiting) branch ≡ gave ++ wait_behind waiting branch
wait_passes [] waiting branch all = refl
wait_passes (first ∷ gave) waiting branch (here, all) =
    ap (λ (b : Bool). cond b (branch ∷ first ∷ (gave ++ waiting)) (first ∷ wait_behind (gave ++ waiting) branch)) (no_less (key_order branch.key first.key) here)
    ∙ ap (λ (list : List CommittedBranch). first ∷ list) (wait_passes gave waiting branch all)
