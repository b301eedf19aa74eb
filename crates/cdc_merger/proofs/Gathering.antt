-- A key's branches, gathered node by node as the heads lead.
use Rattle.std.proofs.Common.{◌≡◌, ◌≢◌, ◌≤◌, ◌<◌, ◌⊎◌, inl, inr, ℕ, zero, suc, ◌+◌, ◌-◌, Bool, true, false, nat_lt, List, [], ◌∷◌, ◌++◌, length, take, drop, filter, Option, Some, None, if◌then◌else◌, ap, sym, refl, subst, ◌∙◌, append_assoc, append-nil, arith}
use borrow.Author.Tests.{ltb-true, ltb-false}
use Rattle.std.specs.Prelude.{slice_set, slice_index_or}
use Rattle.std.specs.List.{AllByRecursion}
use Rattle.std.specs.Ordering.{is_eq}
use Rattle.std.specs.Cmp.{tied_itself}
use Rattle.std.specs.declared.cmp.Ordering.{Ordering}
use Rattle.std.specs.declared.cmp.Ordering.TheVariants.{Less, Equal, Greater}
use Rattle.cdc_base.specs.declared.key.Key.{Key}
use Rattle.cdc_base.specs.Key.{key_order}
use Rattle.cdc_base.proofs.KeyOrder.{key_order_total, same_key}
use Rattle.cdc_model.specs.Records.{CommittedBranch}
use Rattle.cdc_model.specs.Branch.{is_settled}
use Rattle.cdc_model.specs.Transaction.{has_key}
use Rattle.cdc_model.specs.Feed.{NodeFeed}
use Rattle.cdc_model.proofs.KeyList.{not_below_itself, not_both_below}
use Rattle.cdc_model.proofs.OwnBranches.{has_is}
use Rattle.cdc_merger.specs.Heads.{head_at, HasNoHead, GoesBefore, LeadsWith}
use Rattle.cdc_merger.proofs.Heading.{at_any}
use Rattle.cdc_merger.specs.Feeding.{is_behind, ComeInOrder, HeadIsNotBelow, NoHeadIsBelow, front_of, behind_front, fronts_of, without_front}
use Rattle.cdc_merger.specs.Rounds.{head_under, heads_under, node_at, StandsBehind, CanGather, GathersKey}
use Rattle.cdc_merger.proofs.KeyTests.{behind_less, same_or_above}
use Rattle.cdc_merger.proofs.Heads.{none_below, rest_is_behind}

-- a feed of these branches
abbrev feed_at : List CommittedBranch → ℕ → NodeFeed
feed_at branches bound = record { branches = branches; bound = bound }

below_or : (a b : ℕ) → (a < b) ⊎ (b ≤ a)
below_or a b = by (nat_lt a b) refl
  where
    by : (t : Bool) → nat_lt a b ≡ t → (a < b) ⊎ (b ≤ a)
    by true e = inl (ltb-true a b e)
    by false e = inr (ltb-false a b e)

drop_all : {X : Type 0} (xs : List X) (count : ℕ) → length xs ≤ count → drop count xs ≡ []
drop_all [] zero h = refl
drop_all [] (suc count) h = refl
drop_all (x ∷ xs) zero h = absurd (omega arith)
drop_all (x ∷ xs) (suc count) h = drop_all xs count (omega arith)

-- ---- one node

no_test : true ≡ false → ⊥
no_test e = cc

settled_head : (round : ℕ) (branch : CommittedBranch) (branches : List CommittedBranch) → is_settled round branch.key ≡ true
    → head_under round (branch ∷ branches) ≡ Some branch.key
settled_head round branch branches e = ap (λ (b : Bool). if b then Some branch.key else None) e

-- a node whose head isn't a settled key has no branch of it in front
no_front : (round : ℕ) (key : Key) (branches : List CommittedBranch) → is_settled round key ≡ true → (head_under round branches ≡ Some key → ⊥)
    → (front_of key branches ≡ []) × (behind_front key branches ≡ branches)
no_front round key [] settled never = (refl, refl)
no_front round key (branch ∷ branches) settled never = by (has_key key branch) refl
  where
    by : (b : Bool) → has_key key branch ≡ b → (front_of key (branch ∷ branches) ≡ []) × (behind_front key (branch ∷ branches) ≡ branch ∷ branches)
    by true e =
        let same = has_is key branch e in
        absurd (never (settled_head round branch branches (ap (is_settled round) (sym same) ∙ settled) ∙ ap Some (sym same)))
    by false e =
        (ap (λ (b : Bool). if b then branch ∷ front_of key branches else []) e, ap (λ (b : Bool). if b then behind_front key branches else branch ∷ branches) e)

-- what is the head under a mark doesn't stand below the key, and is behind it where it is another
head_not_below : (round : ℕ) (key head : Key) (branches : List CommittedBranch) → HeadIsNotBelow key branches → head_under round branches ≡ Some head
    → key_order head key ≡ Less → ⊥
head_not_below round key head [] never is less = absurd (let e = is in cc)
head_not_below round key head (branch ∷ branches) never is less = by (is_settled round branch.key) refl
  where
    by : (b : Bool) → is_settled round branch.key ≡ b → ⊥
    by true e =
        let same : Some branch.key ≡ Some head = sym (settled_head round branch branches e) ∙ is in
        let key_is : branch.key ≡ head = cc in
        never (subst (λ (k : Key). key_order k key ≡ Less) (sym key_is) less)
    by false e =
        let none : None ≡ Some head = sym (ap (λ (b : Bool). if b then Some branch.key else None) e) ∙ is in
        absurd (let f = none in cc)

stands_behind : (round : ℕ) (key : Key) (branches : List CommittedBranch) (head : Option Key) → HeadIsNotBelow key branches → head ≡ head_under round branches
    → (head ≡ Some key → ⊥) → StandsBehind key head
stands_behind round key branches None never is other = tt
stands_behind round key branches (Some head) never is other =
    elim (same_or_above key head (head_not_below round key head branches never (sym is))) [
      | inl same ↦ absurd (other (ap Some (sym same)))
      | inr less ↦ less
    ]

-- what is left behind a key's front stands behind the key
rest_stands_behind : (round : ℕ) (key : Key) (branches : List CommittedBranch) → ComeInOrder branches → HeadIsNotBelow key branches
    → StandsBehind key (head_under round (behind_front key branches))
rest_stands_behind round key branches order never =
    subst (λ (list : List CommittedBranch). StandsBehind key (head_under round list)) (sym (rest_is_behind key branches order (none_below key branches order never)))
    (first branches)
  where
    test : (branch : CommittedBranch) (b : Bool) → is_behind key branch ≡ true → StandsBehind key (if b then Some branch.key else None)
    test branch true behind = behind_less key branch behind
    test branch false behind = tt

    step : (branch : CommittedBranch) (list : List CommittedBranch) (b : Bool) → is_behind key branch ≡ b → StandsBehind key (head_under round (filter (is_behind key) list))
        → StandsBehind key (head_under round (if b then branch ∷ filter (is_behind key) list else filter (is_behind key) list))
    step branch list true e later = test branch (is_settled round branch.key) e
    step branch list false e later = later

    first : (list : List CommittedBranch) → StandsBehind key (head_under round (filter (is_behind key) list))
    first [] = tt
    first (branch ∷ list) = step branch list (is_behind key branch) refl (first list)

-- ---- the nodes

head_of_node : (key : Key) (nodes : List NodeFeed) (node : ℕ) → NoHeadIsBelow key nodes → HeadIsNotBelow key (node_at nodes node).branches
head_of_node key [] node heads = tt
head_of_node key (feed ∷ nodes) zero (head, heads) = head
head_of_node key (feed ∷ nodes) (suc node) (head, heads) = head_of_node key nodes node heads

order_of_node : (nodes : List NodeFeed) (node : ℕ) → AllByRecursion (λ (feed : NodeFeed). ComeInOrder feed.branches) nodes → ComeInOrder (node_at nodes node).branches
order_of_node [] node ordered = tt
order_of_node (feed ∷ nodes) zero (order, ordered) = order
order_of_node (feed ∷ nodes) (suc node) (order, ordered) = order_of_node nodes node ordered

fronts_from : (key : Key) (nodes : List NodeFeed) (from : ℕ) → from < length nodes
    → fronts_of key (drop from nodes) ≡ front_of key (node_at nodes from).branches ++ fronts_of key (drop (suc from) nodes)
fronts_from key [] from h = absurd (omega arith)
fronts_from key (feed ∷ nodes) zero h = refl
fronts_from key (feed ∷ nodes) (suc from) h = fronts_from key nodes from (omega arith)

-- no front from a node on to below another
fronts_skipped : (key : Key) (nodes : List NodeFeed) (from count : ℕ)
    → ((node : ℕ) → from ≤ node → node < from + count → front_of key (node_at nodes node).branches ≡ [])
    → fronts_of key (drop from nodes) ≡ fronts_of key (drop (from + count) nodes)
fronts_skipped key nodes from zero none = ap (λ (n : ℕ). fronts_of key (drop n nodes)) (omega arith)
fronts_skipped key nodes from (suc count) none = elim (below_or from (length nodes)) [
  | inl less ↦
      let next : suc from + count ≡ from + suc count = omega arith in
      fronts_from key nodes from less
      ∙ ap (λ (list : List CommittedBranch). list ++ fronts_of key (drop (suc from) nodes)) (none from (omega arith) (omega arith))
      ∙ fronts_skipped key nodes (suc from) count (λ node h k. none node (omega arith) (omega arith))
      ∙ ap (λ (n : ℕ). fronts_of key (drop n nodes)) next
  | inr more ↦ ap (fronts_of key) (drop_all nodes from more) ∙ sym (ap (fronts_of key) (drop_all nodes (from + suc count) (omega arith)))
]

-- where no head from a node on is the key, all is gathered
pub gathers_none : (round : ℕ) (key : Key) (from : ℕ) (nodes : List NodeFeed) (heads : List (Option Key)) (own : List CommittedBranch) → CanGather round key from nodes heads
    → ((node : ℕ) → from ≤ node → head_at heads node ≡ Some key → ⊥) → GathersKey round key from nodes nodes heads heads own own
gathers_none round key from nodes heads own r never =
    let none : (node : ℕ) → from ≤ node → (front_of key (node_at nodes node).branches ≡ []) × (behind_front key (node_at nodes node).branches ≡ (node_at nodes node).branches) =
    λ node h. no_front round key (node_at nodes node).branches r.settled (λ is. never node h (r.waits node h ∙ is)) in
    let far : fronts_of key (drop from nodes) ≡ [] =
    fronts_skipped key nodes from (length nodes) (λ node h k. (none node h).0)
    ∙ ap (fronts_of key) (drop_all nodes (from + length nodes) (omega arith)) in
    record {
      gathered = sym (append-nil own) ∙ ap (λ (list : List CommittedBranch). own ++ list) (sym far);
      before = λ node h. refl;
      behind = λ node h. ap (λ (list : List CommittedBranch). feed_at list (node_at nodes node).bound) (sym (none node h).1);
      kept = λ node h. refl;
      entered = λ node h. r.waits node h ∙ ap (head_under round) (sym (none node h).1);
    }

-- ---- the leading node's branches, and those of the nodes behind it

at_other : {X : Type 0} (xs : List X) (i j : ℕ) (y d : X) → j ≢ i → slice_index_or (slice_set xs i y) j d ≡ slice_index_or xs j d
at_other [] i j y d other = refl
at_other (x ∷ xs) zero zero y d other = absurd (other refl)
at_other (x ∷ xs) zero (suc j) y d other = refl
at_other (x ∷ xs) (suc i) zero y d other = refl
at_other (x ∷ xs) (suc i) (suc j) y d other = at_other xs i j y d (λ same. other (ap (λ (n : ℕ). suc n) same))

at_same : {X : Type 0} (xs : List X) (i : ℕ) (y d : X) → i < length xs → slice_index_or (slice_set xs i y) i d ≡ y
at_same [] i y d h = absurd (omega arith)
at_same (x ∷ xs) zero y d h = refl
at_same (x ∷ xs) (suc i) y d h = at_same xs i y d (omega arith)

set_long : {X : Type 0} (xs : List X) (i : ℕ) (y : X) → length (slice_set xs i y) ≡ length xs
set_long [] i y = refl
set_long (x ∷ xs) zero y = refl
set_long (x ∷ xs) (suc i) y = ap (λ (n : ℕ). suc n) (set_long xs i y)

-- no node before the leading one has the key
none_between : (heads : List (Option Key)) (node i : ℕ) (key : Key) → LeadsWith key_order heads node key → i < node → head_at heads i ≡ Some key → ⊥
none_between heads node i key leads h is = by (subst (GoesBefore key_order node (Some key) i) is (leads.first i))
  where
    by : (key_order key key ≡ Less) ⊎ ((key_order key key ≡ Equal) × node ≤ i) → ⊥
    by (inl less) = not_below_itself key less
    by (inr (same, more)) = absurd (omega arith)

pub ready_more : (round : ℕ) (key : Key) (from node : ℕ) (nodes : List NodeFeed) (heads : List (Option Key)) (next : Option Key) → CanGather round key from nodes heads
    → from ≤ node → LeadsWith key_order heads node key → next ≡ head_under round (behind_front key (node_at nodes node).branches)
    → CanGather round key (suc node) nodes (slice_set heads node next)
ready_more round key from node nodes heads next r h leads is =
    record {
      settled = r.settled;
      ordered = r.ordered;
      above = r.above;
      many = set_long heads node next ∙ r.many;
      waits = λ i k. at_other heads node i next None (λ same. absurd (omega (arith, same))) ∙ r.waits i (omega arith);
      passed = passed;
    }
  where
    here : StandsBehind key next
    here = subst (StandsBehind key) (sym is)
        (rest_stands_behind round key (node_at nodes node).branches (order_of_node nodes node r.ordered) (head_of_node key nodes node r.above))

    others : (i : ℕ) → i < node → StandsBehind key (head_at heads i)
    others i k = elim (below_or i from) [
      | inl less ↦ r.passed i less
      | inr more ↦ stands_behind round key (node_at nodes i).branches (head_at heads i) (head_of_node key nodes i r.above) (r.waits i more) (none_between heads node i key leads k)
    ]

    passed : (i : ℕ) → i < suc node → StandsBehind key (head_at (slice_set heads node next) i)
    passed i k = elim (below_or i node) [
      | inl less ↦ subst (StandsBehind key) (sym (at_other heads node i next None (λ same. absurd (omega (arith, same))))) (others i less)
      | inr more ↦
          let same : node ≡ i = omega arith in
          subst (λ (n : ℕ). StandsBehind key (head_at (slice_set heads node next) n)) same
          (subst (StandsBehind key) (sym (at_same heads node next None leads.within)) here)
    ]

pub gathers_more : (round : ℕ) (key : Key) (from node : ℕ) (nodes mid news : List NodeFeed) (heads new_heads : List (Option Key)) (own new_own : List CommittedBranch) (next : Option Key)
    → CanGather round key from nodes heads → from ≤ node → LeadsWith key_order heads node key → next ≡ head_under round (behind_front key (node_at nodes node).branches)
    → GathersKey round key (suc node) nodes mid (slice_set heads node next) new_heads (own ++ front_of key (node_at nodes node).branches) new_own
    → length mid ≡ length nodes → news ≡ slice_set mid node (without_front key (node_at mid node)) → GathersKey round key from nodes news heads new_heads own new_own
gathers_more round key from node nodes mid news heads new_heads own new_own next r h leads is g long made =
    record {
      gathered = g.gathered ∙ append_assoc own (front_of key (node_at nodes node).branches) (fronts_of key (drop (suc node) nodes))
          ∙ ap (λ (list : List CommittedBranch). own ++ list) (sym (skipped ∙ fronts_from key nodes node (omega (arith, leads.within, r.many))));
      before = λ i k. news_at i (λ same. absurd (omega (arith, same))) ∙ g.before i (omega arith);
      behind = behind;
      kept = λ i k. g.kept i (omega arith) ∙ at_other heads node i next None (λ same. absurd (omega (arith, same)));
      entered = entered;
    }
  where
    none : (i : ℕ) → from ≤ i → i < node → (front_of key (node_at nodes i).branches ≡ []) × (behind_front key (node_at nodes i).branches ≡ (node_at nodes i).branches)
    none i a b = no_front round key (node_at nodes i).branches r.settled (λ same. none_between heads node i key leads b (r.waits i a ∙ same))

    skipped : fronts_of key (drop from nodes) ≡ fronts_of key (drop node nodes)
    skipped =
        let total : from + (node - from) ≡ node = omega arith in
        fronts_skipped key nodes from (node - from) (λ i a b. (none i a (omega arith)).0) ∙ ap (λ (n : ℕ). fronts_of key (drop n nodes)) total

    news_at : (i : ℕ) → i ≢ node → node_at news i ≡ node_at mid i
    news_at i other = ap (λ (list : List NodeFeed). node_at list i) made ∙ at_other mid node i (without_front key (node_at mid node)) (feed_at [] 0) other

    mid_here : node_at mid node ≡ node_at nodes node
    mid_here = g.before node (omega arith)

    here : node_at news node ≡ without_front key (node_at nodes node)
    here = ap (λ (list : List NodeFeed). node_at list node) made
        ∙ at_same mid node (without_front key (node_at mid node)) (feed_at [] 0) (omega (arith, long, leads.within, r.many)) ∙ ap (without_front key) mid_here

    unchanged : (i : ℕ) → from ≤ i → i < node → node_at nodes i ≡ without_front key (node_at nodes i)
    unchanged i a b = ap (λ (list : List CommittedBranch). feed_at list (node_at nodes i).bound) (sym (none i a b).1)

    behind : (i : ℕ) → from ≤ i → node_at news i ≡ without_front key (node_at nodes i)
    behind i a = elim (below_or i node) [
      | inl less ↦ news_at i (λ same. absurd (omega (arith, same))) ∙ g.before i (omega arith) ∙ unchanged i a less
      | inr more ↦ elim (below_or node i) [
        | inl less ↦ news_at i (λ same. absurd (omega (arith, same))) ∙ g.behind i (omega arith)
        | inr few ↦ let same : node ≡ i = omega arith in subst (λ (n : ℕ). node_at news n ≡ without_front key (node_at nodes n)) same here
      ]
    ]

    kept_here : head_at new_heads node ≡ head_under round (without_front key (node_at nodes node)).branches
    kept_here = g.kept node (omega arith) ∙ at_same heads node next None leads.within ∙ is

    entered : (i : ℕ) → from ≤ i → head_at new_heads i ≡ head_under round (without_front key (node_at nodes i)).branches
    entered i a = elim (below_or i node) [
      | inl less ↦
          g.kept i (omega arith) ∙ at_other heads node i next None (λ same. absurd (omega (arith, same))) ∙ r.waits i a
          ∙ ap (head_under round) (sym (none i a less).1)
      | inr more ↦ elim (below_or node i) [
        | inl less ↦ g.entered i (omega arith)
        | inr few ↦ let same : node ≡ i = omega arith in subst (λ (n : ℕ). head_at new_heads n ≡ head_under round (without_front key (node_at nodes n)).branches) same kept_here
      ]
    ]

-- where the least head isn't the key, or its node was passed, no head from a node on is the key
pub none_leads : (round : ℕ) (key : Key) (from node : ℕ) (nodes : List NodeFeed) (heads : List (Option Key)) (least : Key) → CanGather round key from nodes heads
    → LeadsWith key_order heads node least → (node < from) ⊎ (least ≡ key → ⊥) → (i : ℕ) → from ≤ i → head_at heads i ≡ Some key → ⊥
none_leads round key from node nodes heads least r leads why i h is = by (subst (GoesBefore key_order node (Some least) i) is (leads.first i)) why
  where
    not_less : key_order least key ≡ Less → (node < from) ⊎ (from ≤ node) → ⊥
    not_less less (inl passed) =
        let behind : key_order key least ≡ Less = subst (StandsBehind key) leads.has (r.passed node passed) in
        not_both_below key least behind less
    not_less less (inr more) =
        head_not_below round key least (node_at nodes node).branches (head_of_node key nodes node r.above) (sym (r.waits node more) ∙ leads.has) less

    by : (key_order least key ≡ Less) ⊎ ((key_order least key ≡ Equal) × node ≤ i) → (node < from) ⊎ (least ≡ key → ⊥) → ⊥
    by (inl less) why = not_less less (below_or node from)
    by (inr (same, few)) (inr other) = other (same_key least key same)
    by (inr (same, few)) (inl passed) =
        let behind : key_order key least ≡ Less = subst (StandsBehind key) leads.has (r.passed node passed) in
        not_below_itself key (subst (λ (k : Key). key_order key k ≡ Less) (same_key least key same) behind)

pub none_has : (heads : List (Option Key)) (i : ℕ) (key : Key) → HasNoHead heads → head_at heads i ≡ Some key → ⊥
none_has [] i key none is = absurd (let e = is in cc)
none_has (head ∷ heads) zero key (absent, none) is = absurd (let e : None ≡ Some key = sym absent ∙ is in cc)
none_has (head ∷ heads) (suc i) key (absent, none) is = none_has heads i key none is

-- ---- as the calls see it

pub is_same : (a b : Key) (test : Bool) → test ≡ is_eq (key_order a b) → test ≡ true → a ≡ b
is_same a b test is yes_it = same_key a b (equal_of (key_order a b) (sym is ∙ yes_it))
  where
    equal_of : (o : Ordering) → is_eq o ≡ true → o ≡ Equal
    equal_of Less e = absurd (let f = e in cc)
    equal_of Equal e = refl
    equal_of Greater e = absurd (let f = e in cc)

pub is_other : (a b : Key) (test : Bool) → test ≡ is_eq (key_order a b) → test ≡ false → a ≡ b → ⊥
is_other a b test is no_it same =
    let equal : key_order a b ≡ Equal = ap (λ (k : Key). key_order k b) same ∙ tied_itself key_order_total b in
    no_test (sym (ap is_eq equal) ∙ sym is ∙ no_it)

pub put_one : (mark index next : ℕ) (nodes : List NodeFeed) (olds : List (Option Key)) (d : NodeFeed) (x : Option Key) → next ≡ suc index → index < length nodes
    → length olds ≡ length nodes → x ≡ head_under mark (slice_index_or nodes index d).branches
    → slice_set (heads_under mark (take index nodes) ++ drop index olds) index x ≡ heads_under mark (take next nodes) ++ drop next olds
put_one mark index next [] olds d x e h long is = absurd (omega arith)
put_one mark index next (feed ∷ nodes) [] d x e h long is = absurd (omega arith)
put_one mark zero next (feed ∷ nodes) (old ∷ olds) d x e h long is =
    ap (λ (head : Option Key). head ∷ olds) is ∙ ap (λ (n : ℕ). heads_under mark (take n (feed ∷ nodes)) ++ drop n (old ∷ olds)) (sym e)
put_one mark (suc index) next (feed ∷ nodes) (old ∷ olds) d x e h long is =
    ap (λ (heads : List (Option Key)). head_under mark feed.branches ∷ heads) (put_one mark index (suc index) nodes olds d x refl (omega arith) (omega arith) is)
    ∙ ap (λ (n : ℕ). heads_under mark (take n (feed ∷ nodes)) ++ drop n (old ∷ olds)) (sym e)

leads_once : (heads : List (Option Key)) (a b : ℕ) (k l : Key) → LeadsWith key_order heads a k → LeadsWith key_order heads b l → a ≡ b
leads_once heads a b k l first second =
    by (subst (GoesBefore key_order a (Some k) b) second.has (first.first b)) (subst (GoesBefore key_order b (Some l) a) first.has (second.first a))
  where
    by : (key_order k l ≡ Less) ⊎ ((key_order k l ≡ Equal) × a ≤ b) → (key_order l k ≡ Less) ⊎ ((key_order l k ≡ Equal) × b ≤ a) → a ≡ b
    by (inl less) (inl more) = absurd (not_both_below k l less more)
    by (inl less) (inr (same, few)) = absurd (not_below_itself k (subst (λ (x : Key). key_order k x ≡ Less) (same_key l k same) less))
    by (inr (same, few)) (inl more) = absurd (not_below_itself k (subst (λ (x : Key). key_order x k ≡ Less) (sym (same_key k l same)) more))
    by (inr (same, few)) (inr (other, many)) = omega arith

-- what is left to gather is ready, as the calls see it
pub ready_step : (round : ℕ) (key head given : Key) (from node other : ℕ) (nodes : List NodeFeed) (heads middle : List (Option Key)) (next : Option Key) (e : NodeFeed)
    → CanGather round key from nodes heads → from ≤ node → LeadsWith key_order heads node head → head ≡ key
    → next ≡ head_under round (behind_front key (slice_index_or nodes node e).branches) → LeadsWith key_order heads other given → middle ≡ slice_set heads other next
    → CanGather round key (node + 1) nodes middle
ready_step round key head given from node other nodes heads middle next e r h leading same entered gone put =
    let leads = subst (LeadsWith key_order heads node) same leading in
    let within : node < length nodes = omega (arith, leads.within, r.many) in
    let middle_is : middle ≡ slice_set heads node next = put ∙ ap (λ (n : ℕ). slice_set heads n next) (sym (leads_once heads node other head given leading gone)) in
    let next_is : next ≡ head_under round (behind_front key (node_at nodes node).branches) =
    entered ∙ ap (λ (feed : NodeFeed). head_under round (behind_front key feed.branches)) (at_any nodes node e (feed_at [] 0) within) in
    let ready = ready_more round key from node nodes heads next r h leads next_is in
    let one : suc node ≡ node + 1 = omega arith in
    subst (λ (n : ℕ). CanGather round key n nodes middle) one (subst (CanGather round key (suc node) nodes) (sym middle_is) ready)

pub gathers_step : (round : ℕ) (key head given : Key) (from node other : ℕ) (nodes mid : List NodeFeed) (heads middle new_heads : List (Option Key)) (own more new_own : List CommittedBranch)
    (next : Option Key) (d e f y : NodeFeed) → CanGather round key from nodes heads → from ≤ node → LeadsWith key_order heads node head → head ≡ key
    → more ≡ own ++ front_of key (slice_index_or nodes node d).branches → next ≡ head_under round (behind_front key (slice_index_or nodes node e).branches)
    → LeadsWith key_order heads other given → middle ≡ slice_set heads other next
    → (CanGather round key (node + 1) nodes middle → GathersKey round key (node + 1) nodes mid middle new_heads more new_own) → length mid ≡ length nodes
    → y ≡ without_front key (slice_index_or mid node f) → GathersKey round key from nodes (slice_set mid node y) heads new_heads own new_own
gathers_step round key head given from node other nodes mid heads middle new_heads own more new_own next d e f y r h leading same shared entered gone put later long dropped =
    let leads = subst (LeadsWith key_order heads node) same leading in
    let within : node < length nodes = omega (arith, leads.within, r.many) in
    let middle_is : middle ≡ slice_set heads node next = put ∙ ap (λ (n : ℕ). slice_set heads n next) (sym (leads_once heads node other head given leading gone)) in
    let next_is : next ≡ head_under round (behind_front key (node_at nodes node).branches) =
    entered ∙ ap (λ (feed : NodeFeed). head_under round (behind_front key feed.branches)) (at_any nodes node e (feed_at [] 0) within) in
    let more_is : more ≡ own ++ front_of key (node_at nodes node).branches =
    shared ∙ ap (λ (feed : NodeFeed). own ++ front_of key feed.branches) (at_any nodes node d (feed_at [] 0) within) in
    let ready = ready_more round key from node nodes heads next r h leads next_is in
    let one : suc node ≡ node + 1 = omega arith in
    let g = later (subst (λ (n : ℕ). CanGather round key n nodes middle) one (subst (CanGather round key (suc node) nodes) (sym middle_is) ready)) in
    let g1 = subst (λ (n : ℕ). GathersKey round key n nodes mid middle new_heads more new_own) (sym one) g in
    let g2 = subst (λ (list : List (Option Key)). GathersKey round key (suc node) nodes mid list new_heads more new_own) middle_is g1 in
    let g3 = subst (λ (list : List CommittedBranch). GathersKey round key (suc node) nodes mid (slice_set heads node next) new_heads list new_own) more_is g2 in
    gathers_more round key from node nodes mid (slice_set mid node y) heads new_heads own new_own next r h leads next_is g3 long
    (ap (slice_set mid node) (dropped ∙ ap (without_front key) (at_any mid node f (feed_at [] 0) (omega (arith, within, long)))))
