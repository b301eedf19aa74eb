-- What the heads of a round know of the branches that wait.
use Rattle.std.proofs.Common.{◌≡◌, ◌≤◌, inl, inr, ℕ, zero, suc, Bool, true, false, List, [], ◌∷◌, ◌++◌, Contains, Option, Some, None, if◌then◌else◌, ap, sym, refl, subst, ◌∙◌}
use Rattle.std.specs.List.{AllByRecursion}
use Rattle.std.specs.declared.cmp.Ordering.TheVariants.{Less}
use Rattle.cdc_base.specs.declared.key.Key.{Key}
use Rattle.cdc_base.specs.Key.{key_order}
use Rattle.cdc_base.proofs.KeyOrder.{same_key}
use Rattle.cdc_model.specs.Records.{CommittedBranch}
use Rattle.cdc_model.specs.Branch.{is_settled}
use Rattle.cdc_model.specs.Feed.{NodeFeed, fed_branches}
use Rattle.cdc_model.proofs.Members.{contains_first, contains_later, contains_none, contains_cases}
use Rattle.cdc_model.proofs.KeyList.{not_below_itself, not_both_below}
use Rattle.cdc_model.proofs.SettledKeys.{keys_of}
use Rattle.cdc_model.proofs.OwnBranches.{settled_below, settled_on}
use Rattle.cdc_merger.specs.Heads.{head_at, HasNoHead, GoesBefore, LeadsWith}
use Rattle.cdc_merger.specs.Feeding.{ComeInOrder, NoneIsBelow, HeadIsNotBelow, NoHeadIsBelow, IsLeastHead, with_branch, with_bound, changed_at}
use Rattle.cdc_merger.specs.Rounds.{head_under, heads_under}

-- ---- one node's head

head_by : (mark : ℕ) (branch : CommittedBranch) (branches : List CommittedBranch) (b : Bool) → is_settled mark branch.key ≡ b
    → head_under mark (branch ∷ branches) ≡ (if b then Some branch.key else None)
head_by mark branch branches b e = ap (λ (b : Bool). if b then Some branch.key else None) e

pub unsettled_above : (mark : ℕ) (low key : Key) → is_settled mark low ≡ false → (key_order key low ≡ Less → ⊥) → is_settled mark key ≡ false
unsettled_above mark low key e never = by (is_settled mark key) refl
  where
    by : (b : Bool) → is_settled mark key ≡ b → is_settled mark key ≡ false
    by true is = absurd (never (settled_below mark key low is e))
    by false is = is

pub unsettled_on : (less mark : ℕ) (key : Key) → less ≤ mark → is_settled mark key ≡ false → is_settled less key ≡ false
unsettled_on less mark key h e = by (is_settled less key) refl
  where
    by : (b : Bool) → is_settled less key ≡ b → is_settled less key ≡ false
    by true is = let both : true ≡ false = sym (settled_on less mark key h is) ∙ e in absurd (let f = both in cc)
    by false is = is

-- a branch more that the mark doesn't settle changes no head
head_given : (mark : ℕ) (branch : CommittedBranch) → is_settled mark branch.key ≡ false → (branches : List CommittedBranch)
    → head_under mark (branches ++ branch ∷ []) ≡ head_under mark branches
head_given mark branch early [] = head_by mark branch [] false early
head_given mark branch early (first ∷ branches) = refl

pub heads_given : (mark : ℕ) (branch : CommittedBranch) → is_settled mark branch.key ≡ false → (index : ℕ) (nodes : List NodeFeed)
    → heads_under mark (changed_at (with_branch branch) index nodes) ≡ heads_under mark nodes
heads_given mark branch early index [] = refl
heads_given mark branch early zero (node ∷ nodes) = ap (λ (head : Option Key). head ∷ heads_under mark nodes) (head_given mark branch early node.branches)
heads_given mark branch early (suc index) (node ∷ nodes) = ap (λ (heads : List (Option Key)). head_under mark node.branches ∷ heads) (heads_given mark branch early index nodes)

pub heads_told : (mark bound index : ℕ) (nodes : List NodeFeed) → heads_under mark (changed_at (with_bound bound) index nodes) ≡ heads_under mark nodes
heads_told mark bound index [] = refl
heads_told mark bound zero (node ∷ nodes) = refl
heads_told mark bound (suc index) (node ∷ nodes) = ap (λ (heads : List (Option Key)). head_under mark node.branches ∷ heads) (heads_told mark bound index nodes)

-- ---- the leading head is the least key that waits

-- a head, where there is one, doesn't stand below a key
abbrev IsNotBelow : Key → Option Key → Type 0
IsNotBelow key None = Unit {0}
IsNotBelow key (Some head) = key_order head key ≡ Less → ⊥

not_below_first : (mark : ℕ) (key : Key) → is_settled mark key ≡ true → (branches : List CommittedBranch) → IsNotBelow key (head_under mark branches) → HeadIsNotBelow key branches
not_below_first mark key settled [] never = tt
not_below_first mark key settled (branch ∷ branches) never = by (is_settled mark branch.key) refl
  where
    by : (b : Bool) → is_settled mark branch.key ≡ b → key_order branch.key key ≡ Less → ⊥
    by true e = subst (IsNotBelow key) (head_by mark branch branches true e) never
    by false e = not_both_below key branch.key (settled_below mark key branch.key settled e)

all_not_below : (mark : ℕ) (key : Key) → is_settled mark key ≡ true → (nodes : List NodeFeed) → ((node : ℕ) → IsNotBelow key (head_at (heads_under mark nodes) node)) → NoHeadIsBelow key nodes
all_not_below mark key settled [] never = tt
all_not_below mark key settled (feed ∷ nodes) never =
    (not_below_first mark key settled feed.branches (never 0), all_not_below mark key settled nodes (λ node. never (suc node)))

leads_not_below : (node other : ℕ) (key : Key) (head : Option Key) → GoesBefore key_order node (Some key) other head → IsNotBelow key head
leads_not_below node other key None goes = tt
leads_not_below node other key (Some head) (inl less) = not_both_below key head less
leads_not_below node other key (Some head) (inr (same, few)) = λ less. not_below_itself key (subst (λ (k : Key). key_order k key ≡ Less) (sym (same_key key head same)) less)

head_is_settled : (mark : ℕ) (key : Key) (branches : List CommittedBranch) → head_under mark branches ≡ Some key → (is_settled mark key ≡ true) × Contains (keys_of branches) key
head_is_settled mark key [] is = absurd (let e = is in cc)
head_is_settled mark key (branch ∷ branches) is = by (is_settled mark branch.key) refl
  where
    by : (b : Bool) → is_settled mark branch.key ≡ b → (is_settled mark key ≡ true) × Contains (keys_of (branch ∷ branches)) key
    by true e =
        let some : Some branch.key ≡ Some key = sym (head_by mark branch branches true e) ∙ is in
        let same : branch.key ≡ key = cc in
        (ap (is_settled mark) (sym same) ∙ e, subst (Contains (keys_of (branch ∷ branches))) same (contains_first branch.key (keys_of branches)))
    by false e =
        let none : None ≡ Some key = sym (head_by mark branch branches false e) ∙ is in
        absurd (let f = none in cc)

fed_first : (key : Key) (front back : List CommittedBranch) → Contains (keys_of front) key → Contains (keys_of (front ++ back)) key
fed_first key [] back within = absurd (contains_none key within)
fed_first key (branch ∷ front) back within = elim (contains_cases branch.key (keys_of front) key within) [
  | inl is ↦ subst (Contains (keys_of (branch ∷ front ++ back))) is (contains_first branch.key (keys_of (front ++ back)))
  | inr deeper ↦ contains_later branch.key (keys_of (front ++ back)) key (fed_first key front back deeper)
]

fed_later : (key : Key) (front back : List CommittedBranch) → Contains (keys_of back) key → Contains (keys_of (front ++ back)) key
fed_later key [] back within = within
fed_later key (branch ∷ front) back within = contains_later branch.key (keys_of (front ++ back)) key (fed_later key front back within)

head_is_fed : (mark : ℕ) (key : Key) (nodes : List NodeFeed) (node : ℕ) → head_at (heads_under mark nodes) node ≡ Some key
    → (is_settled mark key ≡ true) × Contains (keys_of (fed_branches nodes)) key
head_is_fed mark key [] node is = absurd (let e = is in cc)
head_is_fed mark key (feed ∷ nodes) zero is =
    let found = head_is_settled mark key feed.branches is in
    (found.0, fed_first key feed.branches (fed_branches nodes) found.1)
head_is_fed mark key (feed ∷ nodes) (suc node) is =
    let found = head_is_fed mark key nodes node is in
    (found.0, fed_later key feed.branches (fed_branches nodes) found.1)

pub leads_least : (mark : ℕ) (key : Key) (nodes : List NodeFeed) (heads : List (Option Key)) (node : ℕ) → heads ≡ heads_under mark nodes → LeadsWith key_order heads node key
    → (is_settled mark key ≡ true) × IsLeastHead (Some key) nodes
leads_least mark key nodes heads node is leads =
    let found = head_is_fed mark key nodes node (sym (ap (λ (list : List (Option Key)). head_at list node) is) ∙ leads.has) in
    let goes : (other : ℕ) → IsNotBelow key (head_at (heads_under mark nodes) other) =
    λ other. subst (λ (list : List (Option Key)). IsNotBelow key (head_at list other)) is (leads_not_below node other key (head_at heads other) (leads.first other)) in
    (found.0, (all_not_below mark key found.0 nodes goes, found.1))

-- ---- where there is no head, nothing that waits is settled

-- no key of these branches is settled
abbrev pub NoneSettled : ℕ → List CommittedBranch → Type 0
NoneSettled mark branches = (key : Key) → Contains (keys_of branches) key → is_settled mark key ≡ false

none_above : (mark : ℕ) (low : Key) (branches : List CommittedBranch) → is_settled mark low ≡ false → NoneIsBelow low branches → NoneSettled mark branches
none_above mark low [] late none key within = absurd (contains_none key within)
none_above mark low (branch ∷ branches) late (never, none) key within = elim (contains_cases branch.key (keys_of branches) key within) [
  | inl is ↦ unsettled_above mark low key late (subst (λ (k : Key). key_order k low ≡ Less → ⊥) is never)
  | inr deeper ↦ none_above mark low branches late none key deeper
]

none_of_node : (mark : ℕ) (branches : List CommittedBranch) → ComeInOrder branches → head_under mark branches ≡ None → NoneSettled mark branches
none_of_node mark [] order none key within = absurd (contains_none key within)
none_of_node mark (branch ∷ branches) (first, order) none key within = by (is_settled mark branch.key) refl
  where
    by : (b : Bool) → is_settled mark branch.key ≡ b → is_settled mark key ≡ false
    by true e = let some : Some branch.key ≡ None = sym (head_by mark branch branches true e) ∙ none in absurd (let f = some in cc)
    by false e = elim (contains_cases branch.key (keys_of branches) key within) [
      | inl is ↦ ap (is_settled mark) (sym is) ∙ e
      | inr deeper ↦ none_above mark branch.key branches e first key deeper
    ]

of_both : (mark : ℕ) (front back : List CommittedBranch) → NoneSettled mark front → NoneSettled mark back → NoneSettled mark (front ++ back)
of_both mark [] back first second = second
of_both mark (branch ∷ front) back first second = λ key within. elim (contains_cases branch.key (keys_of (front ++ back)) key within) [
  | inl is ↦ first key (subst (Contains (keys_of (branch ∷ front))) is (contains_first branch.key (keys_of front)))
  | inr deeper ↦ of_both mark front back (λ k h. first k (contains_later branch.key (keys_of front) k h)) second key deeper
]

pub none_waits_settled : (mark : ℕ) (nodes : List NodeFeed) → AllByRecursion (λ (feed : NodeFeed). ComeInOrder feed.branches) nodes → HasNoHead (heads_under mark nodes)
    → NoneSettled mark (fed_branches nodes)
none_waits_settled mark [] ordered none = λ key within. absurd (contains_none key within)
none_waits_settled mark (feed ∷ nodes) (order, ordered) (absent, none) =
    of_both mark feed.branches (fed_branches nodes) (none_of_node mark feed.branches order absent) (none_waits_settled mark nodes ordered none)
