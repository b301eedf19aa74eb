-- Which of two heads goes first.
use Rattle.std.proofs.Common.{◌≡◌, ◌≢◌, ◌≤◌, ◌<◌, ◌⊎◌, inl, inr, ℕ, zero, suc, ◌+◌, List, [], ◌∷◌, ◌++◌, length, Bool, true, false, nat_lt, Option, Some, None, ap, sym, refl, subst, ◌∙◌, arith}
use Rattle.std.specs.Prelude.{slice_set, slice_index_or}
use Rattle.std.specs.Cmp.{IsTotalOrder, alike_right, tied_itself}
use Rattle.std.specs.Ordering.{ordering_reverse}
use borrow.Author.Tests.{ltb-true, ltb-false}
use Rattle.std.specs.declared.cmp.Ordering.{Ordering}
use Rattle.std.specs.declared.cmp.Ordering.TheVariants.{Less, Equal, Greater}
use Rattle.cdc_merger.specs.Heads.{GoesBefore, head_at, one_head, head_count, HasNoHead, no_heads, LeadsWith}
use Rattle.cdc_merger.specs.Bracket.{better, better_by, by_order, met, met_by}

pub goes_self : {K : Type 0} (order : K → K → Ordering) → IsTotalOrder order → (node : ℕ) (head : Option K) → GoesBefore order node head node head
goes_self order total node None = tt
goes_self order total node (Some a) = inr (tied_itself total a, omega arith)

goes_by : {K : Type 0} (order : K → K → Ordering) → IsTotalOrder order → (i j k : ℕ) (a b c : K) → (order a b ≡ Less) ⊎ ((order a b ≡ Equal) × i ≤ j)
    → (order b c ≡ Less) ⊎ ((order b c ≡ Equal) × j ≤ k) → (order a c ≡ Less) ⊎ ((order a c ≡ Equal) × i ≤ k)
goes_by order total i j k a b c (inl ab) (inl bc) = inl (total.trans a b c ab bc)
goes_by order total i j k a b c (inl ab) (inr (bc, jk)) = inl (sym (alike_right total b c a bc) ∙ ab)
goes_by order total i j k a b c (inr (ab, ij)) (inl bc) = inl (total.congr a b c ab ∙ bc)
goes_by order total i j k a b c (inr (ab, ij)) (inr (bc, jk)) = inr (total.congr a b c ab ∙ bc, omega arith)

pub goes_on : {K : Type 0} (order : K → K → Ordering) → IsTotalOrder order → (i j k : ℕ) (a b c : Option K) → GoesBefore order i a j b → GoesBefore order j b k c
    → GoesBefore order i a k c
goes_on order total i j k a b None first second = tt
goes_on order total i j k a None (Some c) first second = absurd second
goes_on order total i j k None (Some b) (Some c) first second = absurd first
goes_on order total i j k (Some a) (Some b) (Some c) first second = goes_by order total i j k a b c first second

-- of two nodes in order the better one's head goes before both
pub better_first : {K : Type 0} (order : K → K → Ordering) → IsTotalOrder order → (heads : List (Option K)) (i j : ℕ) → i ≤ j
    → GoesBefore order (better order heads i j) (head_at heads (better order heads i j)) i (head_at heads i)
    × GoesBefore order (better order heads i j) (head_at heads (better order heads i j)) j (head_at heads j)
better_first {K} order total heads i j h = by (head_at heads i) (head_at heads j) refl refl
  where
    at : (node : ℕ) (own a b : Option K) → head_at heads node ≡ own → GoesBefore order node own i a × GoesBefore order node own j b
        → GoesBefore order node (head_at heads node) i a × GoesBefore order node (head_at heads node) j b
    at node own a b is goes = subst (λ (head : Option K). GoesBefore order node head i a × GoesBefore order node head j b) (sym is) goes

    tied : (a b : K) (o : Ordering) → order a b ≡ o → head_at heads i ≡ Some a → head_at heads j ≡ Some b
        → GoesBefore order (by_order o i j) (head_at heads (by_order o i j)) i (Some a) × GoesBefore order (by_order o i j) (head_at heads (by_order o i j)) j (Some b)
    tied a b Less e is other = at i (Some a) (Some a) (Some b) is (goes_self order total i (Some a), inl e)
    tied a b Equal e is other = at i (Some a) (Some a) (Some b) is (goes_self order total i (Some a), inr (e, h))
    tied a b Greater e is other = at j (Some b) (Some a) (Some b) other (inl (total.antisymm b a ∙ ap ordering_reverse e), goes_self order total j (Some b))

    by : (a b : Option K) → head_at heads i ≡ a → head_at heads j ≡ b
        → GoesBefore order (better_by order a b i j) (head_at heads (better_by order a b i j)) i a × GoesBefore order (better_by order a b i j) (head_at heads (better_by order a b i j)) j b
    by None b is other = at j b None b other (tt, goes_self order total j b)
    by (Some a) None is other = at i (Some a) (Some a) None is (goes_self order total i (Some a), tt)
    by (Some a) (Some b) is other = tied a b (order a b) refl is other

by_either : (o : Ordering) (i j : ℕ) → (by_order o i j ≡ i) ⊎ (by_order o i j ≡ j)
by_either Less i j = inl refl
by_either Equal i j = inl refl
by_either Greater i j = inr refl

pub better_either : {K : Type 0} (order : K → K → Ordering) (heads : List (Option K)) (i j : ℕ) → (better order heads i j ≡ i) ⊎ (better order heads i j ≡ j)
better_either {K} order heads i j = by (head_at heads i) (head_at heads j)
  where
    by : (a b : Option K) → (better_by order a b i j ≡ i) ⊎ (better_by order a b i j ≡ j)
    by None b = inr refl
    by (Some a) None = inl refl
    by (Some a) (Some b) = by_either (order a b) i j

-- a comparison takes one of two heads away, and leaves one
pub one_is_met : {K : Type 0} (order : K → K → Ordering) (heads : List (Option K)) (i j : ℕ)
    → met heads i j + one_head (head_at heads (better order heads i j)) ≡ one_head (head_at heads i) + one_head (head_at heads j)
one_is_met {K} order heads i j = by (head_at heads i) (head_at heads j) refl refl
  where
    tied : (a b : K) (o : Ordering) → head_at heads i ≡ Some a → head_at heads j ≡ Some b → 1 + one_head (head_at heads (by_order o i j)) ≡ 2
    tied a b Less is other = ap (λ (head : Option K). 1 + one_head head) is
    tied a b Equal is other = ap (λ (head : Option K). 1 + one_head head) is
    tied a b Greater is other = ap (λ (head : Option K). 1 + one_head head) other

    by : (a b : Option K) → head_at heads i ≡ a → head_at heads j ≡ b → met_by a b + one_head (head_at heads (better_by order a b i j)) ≡ one_head a + one_head b
    by None b is other = ap (λ (head : Option K). 0 + one_head head) other
    by (Some a) None is other = ap (λ (head : Option K). 0 + one_head head) is
    by (Some a) (Some b) is other = tied a b (order a b) is other

one_is_not_none : {K : Type 0} (head : Option K) (a : K) → head ≡ Some a → one_head head ≡ 0 → ⊥
one_is_not_none head a is none = let one = ap one_head is in omega (arith, one, none)

-- where the better one has no head, neither has
pub none_is_best : {K : Type 0} (order : K → K → Ordering) (heads : List (Option K)) (i j : ℕ) → one_head (head_at heads (better order heads i j)) ≡ 0
    → (one_head (head_at heads i) ≡ 0) × (one_head (head_at heads j) ≡ 0)
none_is_best {K} order heads i j = by (head_at heads i) (head_at heads j) refl refl
  where
    tied : (a b : K) (o : Ordering) → head_at heads i ≡ Some a → head_at heads j ≡ Some b → one_head (head_at heads (by_order o i j)) ≡ 0
        → (one_head (Some a) ≡ 0) × (one_head (Some b) ≡ 0)
    tied a b Less is other none = absurd (one_is_not_none (head_at heads i) a is none)
    tied a b Equal is other none = absurd (one_is_not_none (head_at heads i) a is none)
    tied a b Greater is other none = absurd (one_is_not_none (head_at heads j) b other none)

    by : (a b : Option K) → head_at heads i ≡ a → head_at heads j ≡ b → one_head (head_at heads (better_by order a b i j)) ≡ 0 → (one_head a ≡ 0) × (one_head b ≡ 0)
    by None b is other none = (refl, ap one_head (sym other) ∙ none)
    by (Some a) None is other none = absurd (one_is_not_none (head_at heads i) a is none)
    by (Some a) (Some b) is other none = tied a b (order a b) is other none

pub none_more : (K : Type 0) (nodes : ℕ) → no_heads K nodes ++ None ∷ [] ≡ no_heads K (nodes + 1)
none_more K zero = refl
none_more K (suc nodes) =
    let more : suc (nodes + 1) ≡ suc nodes + 1 = omega arith in
    ap (λ (list : List (Option K)). None ∷ list) (none_more K nodes) ∙ ap (no_heads K) more

pub none_has_one : (K : Type 0) (nodes : ℕ) → HasNoHead (no_heads K nodes)
none_has_one K zero = tt
none_has_one K (suc nodes) = (refl, none_has_one K nodes)

pub so_many : (K : Type 0) (nodes : ℕ) → length (no_heads K nodes) ≡ nodes
so_many K zero = refl
so_many K (suc nodes) = ap (λ (n : ℕ). suc n) (so_many K nodes)

pub few_heads : {K : Type 0} (head : Option K) → one_head head ≤ 1
few_heads None = omega arith
few_heads (Some a) = omega arith

pub few_met : {K : Type 0} (heads : List (Option K)) (i j : ℕ) → met heads i j ≤ 1
few_met {K} heads i j = by (head_at heads i) (head_at heads j)
  where
    by : (a b : Option K) → met_by a b ≤ 1
    by None b = omega arith
    by (Some a) None = omega arith
    by (Some a) (Some b) = omega arith

moved : {K : Type 0} (order : K → K → Ordering) (node i j : ℕ) (head : Option K) → GoesBefore order node None i head → GoesBefore order node None j head
moved order node i j None goes = tt
moved order node i j (Some a) goes = absurd goes

must_be_none : {K : Type 0} (order : K → K → Ordering) (node i : ℕ) (head : Option K) → GoesBefore order node None i head → head ≡ None
must_be_none order node i None goes = refl
must_be_none order node i (Some a) goes = absurd goes

-- no head is left where the one that goes first is none
pub all_behind_none : {K : Type 0} (order : K → K → Ordering) (heads : List (Option K)) (node : ℕ)
    → ((other : ℕ) → other < length heads → GoesBefore order node None other (head_at heads other)) → HasNoHead heads
all_behind_none order [] node goes = tt
all_behind_none order (head ∷ heads) node goes = (
  must_be_none order node 0 head (goes 0 (omega arith)),
  all_behind_none order heads node (λ other h. moved order node (suc other) other (head_at heads other) (goes (suc other) (omega arith))),
)

pub none_at : {K : Type 0} (heads : List (Option K)) (node : ℕ) → HasNoHead heads → head_at heads node ≡ None
none_at [] node none = refl
none_at (head ∷ heads) zero (absent, none) = absent
none_at (head ∷ heads) (suc node) (absent, none) = none_at heads node none

at_other : {X : Type 0} (xs : List X) (i j : ℕ) (y d : X) → j ≢ i → slice_index_or (slice_set xs i y) j d ≡ slice_index_or xs j d
at_other [] i j y d other = refl
at_other (x ∷ xs) zero zero y d other = absurd (other refl)
at_other (x ∷ xs) zero (suc j) y d other = refl
at_other (x ∷ xs) (suc i) zero y d other = refl
at_other (x ∷ xs) (suc i) (suc j) y d other = at_other xs i j y d (λ same. other (ap (λ (n : ℕ). suc n) same))

pub others_stay : {K : Type 0} (heads : List (Option K)) (seat : ℕ) (next : Option K) (node : ℕ) → node ≢ seat → head_at heads node ≡ head_at (slice_set heads seat next) node
others_stay heads seat next node other = sym (at_other heads seat node next None other)

pub set_long : {X : Type 0} (xs : List X) (i : ℕ) (y : X) → length (slice_set xs i y) ≡ length xs
set_long [] i y = refl
set_long (x ∷ xs) zero y = refl
set_long (x ∷ xs) (suc i) y = ap (λ (n : ℕ). suc n) (set_long xs i y)

-- an element is there whatever stands for none
pub at_any : {X : Type 0} (xs : List X) (i : ℕ) (d e : X) → i < length xs → slice_index_or xs i d ≡ slice_index_or xs i e
at_any [] i d e h = absurd (omega arith)
at_any (x ∷ xs) zero d e h = refl
at_any (x ∷ xs) (suc i) d e h = at_any xs i d e (omega arith)

beyond : {X : Type 0} (xs : List X) (i : ℕ) (d : X) → length xs ≤ i → slice_index_or xs i d ≡ d
beyond [] i d h = refl
beyond (x ∷ xs) zero d h = absurd (omega arith)
beyond (x ∷ xs) (suc i) d h = beyond xs i d (omega arith)

in_or_beyond : (a b : ℕ) → (a < b) ⊎ (b ≤ a)
in_or_beyond a b = by (nat_lt a b) refl
  where
    by : (t : Bool) → nat_lt a b ≡ t → (a < b) ⊎ (b ≤ a)
    by true e = inl (ltb-true a b e)
    by false e = inr (ltb-false a b e)

-- a head that goes before all others within the list goes before all
pub leads_with : {K : Type 0} (order : K → K → Ordering) (heads : List (Option K)) (node : ℕ) (head : Option K) (key : K) → node < length heads → head ≡ head_at heads node → head ≡ Some key
    → ((other : ℕ) → other < length heads → GoesBefore order node (head_at heads node) other (head_at heads other)) → LeadsWith order heads node key
leads_with {K} order heads node head key within at is goes =
    record {
      within = within;
      has = sym at ∙ is;
      first = λ other. subst (λ (own : Option K). GoesBefore order node own other (head_at heads other)) (sym at ∙ is) (anywhere other);
    }
  where
    anywhere : (other : ℕ) → GoesBefore order node (head_at heads node) other (head_at heads other)
    anywhere other = elim (in_or_beyond other (length heads)) [
      | inl less ↦ goes other less
      | inr more ↦ subst (GoesBefore order node (head_at heads node) other) (sym (beyond heads other None more)) tt
    ]

-- one head put in the place of another
pub count_set : {K : Type 0} (heads : List (Option K)) (node : ℕ) (next : Option K) → node < length heads
    → head_count (slice_set heads node next) + one_head (head_at heads node) ≡ head_count heads + one_head next
count_set [] node next h = absurd (omega arith)
count_set (head ∷ heads) zero next h = omega arith
count_set (head ∷ heads) (suc node) next h = let more = count_set heads node next (omega arith) in omega (arith, more)

pub count_less : {K : Type 0} (order : K → K → Ordering) (heads new : List (Option K)) (node : ℕ) (key : K) (next : Option K) → LeadsWith order heads node key
    → new ≡ slice_set heads node next → next ≡ None → head_count new < head_count heads
count_less order heads new node key next leads put none =
    let set = count_set heads node next leads.within in
    let one = ap one_head leads.has in
    let zero_head = ap one_head none in
    let same = ap head_count put in
    omega (arith, set, one, zero_head, same)

pub none_alike : {K : Type 0} (heads others : List (Option K)) → HasNoHead heads → HasNoHead others → length heads ≡ length others → heads ≡ others
none_alike [] [] none both long = refl
none_alike [] (other ∷ others) none both long = absurd (omega arith)
none_alike (head ∷ heads) [] none both long = absurd (omega arith)
none_alike (head ∷ heads) (other ∷ others) (absent, none) (missing, both) long =
    ap (λ h. h ∷ heads) (absent ∙ sym missing) ∙ ap (λ hs. other ∷ hs) (none_alike heads others none both (omega arith))
