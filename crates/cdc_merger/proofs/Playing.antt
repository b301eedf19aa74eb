-- The matches of a tournament, played and played again.
use Rattle.std.proofs.Common.{◌≡◌, ◌≢◌, ◌≤◌, ◌<◌, ◌⊎◌, inl, inr, ℕ, zero, suc, ◌+◌, ◌-◌, ◌*◌, ◌/◌, ◌^◌, Bool, true, false, nat_lt, List, ◌∷◌, length, drop, Option, Some, None, if◌then◌else◌, ap, sym, refl, subst, ◌∙◌, arith}
use Rattle.std.proofs.Math.Seq.{drop-cons}
use Rattle.std.proofs.Math.Nat.{pow-succ'}
use Rattle.std.specs.Cmp.{IsTotalOrder}
use borrow.Author.Tests.{ltb-true, ltb-false}
use Rattle.std.specs.declared.cmp.Ordering.{Ordering}
use Rattle.cdc_merger.specs.declared.bracket.Bracket.{Bracket, Seat, Match'}
use Rattle.std.specs.Prelude.{slice_set, slice_index_or}
use Rattle.cdc_merger.specs.Heads.{GoesBefore, head_at, one_head, head_count, no_heads, HasNoHead, HasHead, LeadsWith}
use Rattle.cdc_merger.specs.Bracket.{Spans, IsLow, AreSeats, leader_of, better, better_by, played, play_count, replayed, IsPlayed, IsIdle, IsBracketOf}
use Rattle.cdc_merger.proofs.Heading.{goes_self, goes_on, better_first, better_either, one_is_met, none_is_best, few_heads, none_at, others_stay, set_long, so_many, none_has_one, all_behind_none, leads_with, at_any}

below_or : (a b : ℕ) → (a < b) ⊎ (b ≤ a)
below_or a b = by (nat_lt a b) refl
  where
    by : (t : Bool) → nat_lt a b ≡ t → (a < b) ⊎ (b ≤ a)
    by true e = inl (ltb-true a b e)
    by false e = inr (ltb-false a b e)

pub leader_in : (from to : ℕ) (bracket : Bracket) → Spans from to bracket → (from ≤ leader_of bracket) × (leader_of bracket < to)
leader_in from to (Seat node) (is, ends) = (omega arith, omega arith)
leader_in from to (Match' p left q right middle leader) (first, second, low, high, least, most) = (least, most)

pub seats_of : (from to count : ℕ) (bracket : Bracket) → Spans from to bracket → to ≤ count → AreSeats count bracket
seats_of from to count (Seat node) (is, ends) h = omega arith
seats_of from to count (Match' p left q right middle leader) (first, second, low, high, least, most) h =
    (seats_of from middle count left first (omega arith), seats_of middle to count right second h, omega arith)

pub leads_below : (count : ℕ) (bracket : Bracket) → AreSeats count bracket → leader_of bracket < count
leads_below count (Seat node) seats = seats
leads_below count (Match' p left q right middle leader) seats = seats.2

better_below : {K : Type 0} (order : K → K → Ordering) (heads : List (Option K)) (from to i j : ℕ) → from ≤ i → i < to → from ≤ j → j < to
    → (from ≤ better order heads i j) × (better order heads i j < to)
better_below order heads from to i j a b d e = elim (better_either order heads i j) [
  | inl is ↦ (omega (arith, is), omega (arith, is))
  | inr is ↦ (omega (arith, is), omega (arith, is))
]

-- the leader's head goes before all heads of its bracket
pub leads_all : {K : Type 0} (order : K → K → Ordering) → IsTotalOrder order → (heads : List (Option K)) (from to : ℕ) (bracket : Bracket) → Spans from to bracket
    → IsPlayed order heads bracket → (node : ℕ) → from ≤ node → node < to → GoesBefore order (leader_of bracket) (head_at heads (leader_of bracket)) node (head_at heads node)
leads_all order total heads from to (Seat seat) (is, ends) done node h k =
    let e : seat ≡ node = omega arith in
    subst (λ (n : ℕ). GoesBefore order seat (head_at heads seat) n (head_at heads n)) e (goes_self order total seat (head_at heads seat))
leads_all order total heads from to (Match' p left q right middle leader) (first, second, low, high, least, most) (ahead, behind, leads) node h k =
    let l = leader_in from middle left first in
    let r = leader_in middle to right second in
    let ordered : leader_of left ≤ leader_of right = omega arith in
    let both = better_first order total heads (leader_of left) (leader_of right) ordered in
    let at = λ (n : ℕ). GoesBefore order n (head_at heads n) node (head_at heads node) in
    let best = better order heads (leader_of left) (leader_of right) in
    subst at (sym leads)
    (elim (below_or node middle) [
      | inl less ↦ goes_on order total best (leader_of left) node (head_at heads best) (head_at heads (leader_of left)) (head_at heads node) both.0
          (leads_all order total heads from middle left first ahead node h less)
      | inr more ↦ goes_on order total best (leader_of right) node (head_at heads best) (head_at heads (leader_of right)) (head_at heads node) both.1
          (leads_all order total heads middle to right second behind node more k)
    ])

-- ---- all matches played

pub spans_played : {K : Type 0} (order : K → K → Ordering) (heads : List (Option K)) (from to : ℕ) (bracket : Bracket) → Spans from to bracket
    → Spans from to (played order heads bracket)
spans_played order heads from to (Seat node) spans = spans
spans_played order heads from to (Match' p left q right middle leader) (first, second, low, high, least, most) =
    let l = spans_played order heads from middle left first in
    let r = spans_played order heads middle to right second in
    let a = leader_in from middle (played order heads left) l in
    let b = leader_in middle to (played order heads right) r in
    let best = better_below order heads from to (leader_of (played order heads left)) (leader_of (played order heads right)) a.0 (omega arith) (omega arith) b.1 in
    (l, r, low, high, best.0, best.1)

pub seats_played : {K : Type 0} (order : K → K → Ordering) (heads : List (Option K)) (count : ℕ) (bracket : Bracket) → AreSeats count bracket
    → AreSeats count (played order heads bracket)
seats_played order heads count (Seat node) seats = seats
seats_played order heads count (Match' p left q right middle leader) (first, second, most) =
    let l = seats_played order heads count left first in
    let r = seats_played order heads count right second in
    let best = better_below order heads 0 count (leader_of (played order heads left)) (leader_of (played order heads right)) (omega arith) (leads_below count _ l) (omega arith) (leads_below count _ r) in
    (l, r, best.1)

pub low_played : {K : Type 0} (order : K → K → Ordering) (heads : List (Option K)) (depth : ℕ) (bracket : Bracket) → IsLow depth bracket
    → IsLow depth (played order heads bracket)
low_played order heads depth (Seat node) low = tt
low_played order heads depth (Match' p left q right middle leader) (some, first, second) =
    (some, low_played order heads (depth - 1) left first, low_played order heads (depth - 1) right second)

pub all_played : {K : Type 0} (order : K → K → Ordering) (heads : List (Option K)) (bracket : Bracket) → IsPlayed order heads (played order heads bracket)
all_played order heads (Seat node) = tt
all_played order heads (Match' p left q right middle leader) = (all_played order heads left, all_played order heads right, refl)

-- ---- the matches of one node played again

either : (P : Bracket → Type 0) (b : Bool) (x y : Bracket) → P x → P y → P (if b then x else y)
either P true x y first second = first
either P false x y first second = second

pub spans_replayed : {K : Type 0} (order : K → K → Ordering) (heads : List (Option K)) (seat from to : ℕ) (bracket : Bracket) → Spans from to bracket
    → Spans from to (replayed order heads seat bracket)
spans_replayed order heads seat from to (Seat node) spans = spans
spans_replayed order heads seat from to (Match' p left q right middle leader) (first, second, low, high, least, most) =
    let l = spans_replayed order heads seat from middle left first in
    let r = spans_replayed order heads seat middle to right second in
    let a = leader_in from middle left first in
    let b = leader_in middle to right second in
    let d = leader_in from middle (replayed order heads seat left) l in
    let e = leader_in middle to (replayed order heads seat right) r in
    let ahead = better_below order heads from to (leader_of (replayed order heads seat left)) (leader_of right) d.0 (omega arith) (omega arith) b.1 in
    let behind = better_below order heads from to (leader_of left) (leader_of (replayed order heads seat right)) a.0 (omega arith) (omega arith) e.1 in
    either (Spans from to) (nat_lt seat middle) _ _ (l, second, low, high, ahead.0, ahead.1) (first, r, low, high, behind.0, behind.1)

pub seats_replayed : {K : Type 0} (order : K → K → Ordering) (heads : List (Option K)) (seat count : ℕ) (bracket : Bracket) → AreSeats count bracket
    → AreSeats count (replayed order heads seat bracket)
seats_replayed order heads seat count (Seat node) seats = seats
seats_replayed order heads seat count (Match' p left q right middle leader) (first, second, most) =
    let l = seats_replayed order heads seat count left first in
    let r = seats_replayed order heads seat count right second in
    let ahead = better_below order heads 0 count (leader_of (replayed order heads seat left)) (leader_of right) (omega arith) (leads_below count _ l) (omega arith) (leads_below count _ second) in
    let behind = better_below order heads 0 count (leader_of left) (leader_of (replayed order heads seat right)) (omega arith) (leads_below count _ first) (omega arith) (leads_below count _ r) in
    either (AreSeats count) (nat_lt seat middle) _ _ (l, second, ahead.1) (first, r, behind.1)

pub low_replayed : {K : Type 0} (order : K → K → Ordering) (heads : List (Option K)) (seat depth : ℕ) (bracket : Bracket) → IsLow depth bracket
    → IsLow depth (replayed order heads seat bracket)
low_replayed order heads seat depth (Seat node) low = tt
low_replayed order heads seat depth (Match' p left q right middle leader) (some, first, second) =
    either (IsLow depth) (nat_lt seat middle) _ _
    (some, low_replayed order heads seat (depth - 1) left first, second)
    (some, first, low_replayed order heads seat (depth - 1) right second)

-- heads that agree on the seats of a bracket
abbrev pub Agree : {K : Type 0} → List (Option K) → List (Option K) → ℕ → ℕ → Type 0
Agree olds news from to = (node : ℕ) → from ≤ node → node < to → head_at olds node ≡ head_at news node

same_better : {K : Type 0} (order : K → K → Ordering) (olds news : List (Option K)) (i j : ℕ) → head_at olds i ≡ head_at news i → head_at olds j ≡ head_at news j
    → better order olds i j ≡ better order news i j
same_better {K} order olds news i j first second =
    ap (λ (head : Option K). better_by order head (head_at olds j) i j) first ∙ ap (λ (head : Option K). better_by order (head_at news i) head i j) second

still_played : {K : Type 0} (order : K → K → Ordering) (olds news : List (Option K)) (from to : ℕ) (bracket : Bracket) → Spans from to bracket
    → Agree olds news from to → IsPlayed order olds bracket → IsPlayed order news bracket
still_played order olds news from to (Seat node) spans agree done = tt
still_played order olds news from to (Match' p left q right middle leader) (first, second, low, high, least, most) agree (ahead, behind, leads) =
    let l = leader_in from middle left first in
    let r = leader_in middle to right second in (
      still_played order olds news from middle left first (λ node h k. agree node h (omega arith)) ahead,
      still_played order olds news middle to right second (λ node h k. agree node (omega arith) k) behind,
      leads ∙ same_better order olds news (leader_of left) (leader_of right) (agree (leader_of left) l.0 (omega arith)) (agree (leader_of right) (omega arith) r.1),
    )

pub is_replayed : {K : Type 0} (order : K → K → Ordering) (olds news : List (Option K)) (seat : ℕ) → ((node : ℕ) → node ≢ seat → head_at olds node ≡ head_at news node)
    → (from to : ℕ) (bracket : Bracket) → Spans from to bracket → IsPlayed order olds bracket → IsPlayed order news (replayed order news seat bracket)
is_replayed order olds news seat others from to (Seat node) spans done = tt
is_replayed order olds news seat others from to (Match' p left q right middle leader) (first, second, low, high, least, most) (ahead, behind, leads) =
    by (nat_lt seat middle) refl (is_replayed order olds news seat others from middle left first ahead) (is_replayed order olds news seat others middle to right second behind)
  where
    by : (b : Bool) → nat_lt seat middle ≡ b → IsPlayed order news (replayed order news seat left) → IsPlayed order news (replayed order news seat right)
        → IsPlayed order news (if b then
        Match' p (replayed order news seat left) q right middle (better order news (leader_of (replayed order news seat left)) (leader_of right))
        else
        Match' p left q (replayed order news seat right) middle (better order news (leader_of left) (leader_of (replayed order news seat right))))
    by true e l r =
        let less = ltb-true seat middle e in
        (l, still_played order olds news middle to right second (λ node h k. others node (omega arith)) behind, refl)
    by false e l r =
        let more = ltb-false seat middle e in
        (still_played order olds news from middle left first (λ node h k. others node (omega arith)) ahead, r, refl)

-- ---- comparisons

-- how many seats have a head
abbrev pub seated : {K : Type 0} → List (Option K) → Bracket → ℕ
seated heads (Seat node) = one_head (head_at heads node)
seated heads (Match' p left q right middle leader) = seated heads left + seated heads right

-- each comparison takes one head away
pub each_takes_one : {K : Type 0} (order : K → K → Ordering) (heads : List (Option K)) (bracket : Bracket)
    → (play_count order heads bracket + one_head (head_at heads (leader_of (played order heads bracket))) ≡ seated heads bracket)
    × (one_head (head_at heads (leader_of (played order heads bracket))) ≡ 0 → seated heads bracket ≡ 0)
each_takes_one order heads (Seat node) = (omega arith, λ none. none)
each_takes_one order heads (Match' p left q right middle leader) =
    let l = each_takes_one order heads left in
    let r = each_takes_one order heads right in
    let first = leader_of (played order heads left) in
    let second = leader_of (played order heads right) in
    let one = one_is_met order heads first second in (
      omega (arith, l.0, r.0, one),
      λ none.
          let both = none_is_best order heads first second none in
          let a = l.1 both.0 in
          let b = r.1 both.1 in
          omega (arith, a, b),
    )

pub seated_of : {K : Type 0} (heads : List (Option K)) (from to : ℕ) (bracket : Bracket) → Spans from to bracket → to ≤ length heads
    → seated heads bracket + head_count (drop to heads) ≡ head_count (drop from heads)
seated_of {K} heads from to (Seat node) (is, ends) h =
    let within : from < length heads = omega arith in
    let next : to ≡ suc from = omega arith in
    let cut : drop from heads ≡ head_at heads from ∷ drop (suc from) heads = drop-cons heads from None within in
    ap (λ (n : ℕ). one_head (head_at heads n) + head_count (drop to heads)) is
    ∙ ap (λ (n : ℕ). one_head (head_at heads from) + head_count (drop n heads)) next
    ∙ sym (ap head_count cut)
seated_of heads from to (Match' p left q right middle leader) (first, second, low, high, least, most) h =
    let l = seated_of heads from middle left first (omega arith) in
    let r = seated_of heads middle to right second h in
    omega (arith, l, r)

pub fewer_than_heads : {K : Type 0} (order : K → K → Ordering) (heads : List (Option K)) (bracket : Bracket) → Spans 0 (length heads) bracket
    → play_count order heads bracket ≤ head_count heads - 1
fewer_than_heads order heads bracket spans =
    let one = each_takes_one order heads bracket in
    let all = seated_of heads 0 (length heads) bracket spans (omega arith) in
    let few = few_heads (head_at heads (leader_of (played order heads bracket))) in
    elim (below_or 0 (one_head (head_at heads (leader_of (played order heads bracket))))) [
      | inl some ↦ omega (arith, one.0, all, few)
      | inr zero_heads ↦
          let none : one_head (head_at heads (leader_of (played order heads bracket))) ≡ 0 = omega arith in
          let empty = one.1 none in
          omega (arith, one.0, empty)
    ]

-- ---- the depth

pub low_match : (from to middle leader : ℕ) (p q : _) (left right : Bracket) → ((depth : ℕ) → middle ≤ from + 2 ^ depth → IsLow depth left)
    → ((depth : ℕ) → to ≤ middle + 2 ^ depth → IsLow depth right) → from + 1 < to → middle ≡ from + (to - from) / 2
    → (depth : ℕ) → to ≤ from + 2 ^ depth → IsLow depth (Match' p left q right middle leader)
low_match from to middle leader p q left right first second h is zero fits = absurd (omega arith)
low_match from to middle leader p q left right first second h is (suc depth) fits =
    let before : suc depth - 1 ≡ depth = omega arith in
    let same : 2 ^ (suc depth - 1) ≡ 2 ^ depth = ap (λ (n : ℕ). 2 ^ n) before in
    let twice : 2 ^ suc depth ≡ 2 * 2 ^ depth = pow-succ' 2 depth in
    (omega arith, first (suc depth - 1) (omega (arith, same, twice)), second (suc depth - 1) (omega (arith, same, twice)))

-- ---- a bracket in which the last node leads has been played where there is no head

pub idle_played : {K : Type 0} (order : K → K → Ordering) (heads : List (Option K)) → HasNoHead heads → (bracket : Bracket) → IsIdle bracket → IsPlayed order heads bracket
idle_played order heads none (Seat node) idle = tt
idle_played {K} order heads none (Match' p left q right middle leader) (first, second, last) = (
  idle_played order heads none left first,
  idle_played order heads none right second,
  last ∙ sym (ap (λ (head : Option K). better_by order head (head_at heads (leader_of right)) (leader_of left) (leader_of right)) (none_at heads (leader_of left) none)),
)

-- ---- whole tournaments

pub idle_bracket : {K : Type 0} (order : K → K → Ordering) (heads : List (Option K)) (nodes : ℕ) (bracket : Bracket) → heads ≡ no_heads K nodes
    → Spans 0 nodes bracket → IsIdle bracket → ((depth : ℕ) → nodes ≤ 0 + 2 ^ depth → IsLow depth bracket) → IsBracketOf order heads bracket
idle_bracket {K} order heads nodes bracket is spans idle low =
    let many : length heads ≡ nodes = ap length is ∙ so_many K nodes in
    record {
      spans = subst (λ (n : ℕ). Spans 0 n bracket) (sym many) spans;
      is_played = idle_played order heads (subst HasNoHead (sym is) (none_has_one K nodes)) bracket idle;
      low = λ depth h. low depth (omega (arith, many));
    }

pub played_bracket : {K : Type 0} (order : K → K → Ordering) (olds heads : List (Option K)) (bracket new : Bracket) → IsBracketOf order olds bracket
    → length heads ≡ length olds → new ≡ played order heads bracket → IsBracketOf order heads new
played_bracket order olds heads bracket new b many is =
    subst (IsBracketOf order heads) (sym is)
    (record {
      spans = subst (λ (n : ℕ). Spans 0 n (played order heads bracket)) (sym many) (spans_played order heads 0 (length olds) bracket b.spans);
      is_played = all_played order heads bracket;
      low = λ depth h. low_played order heads depth bracket (b.low depth (omega (arith, many)));
    })

pub replayed_bracket : {K : Type 0} (order : K → K → Ordering) (olds heads : List (Option K)) (bracket new : Bracket) (node : ℕ) (next : Option K) → IsBracketOf order olds bracket
    → heads ≡ slice_set olds node next → new ≡ replayed order heads node bracket → IsBracketOf order heads new
replayed_bracket {K} order olds heads bracket new node next b made is =
    let many : length heads ≡ length olds = ap length made ∙ set_long olds node next in
    let others : (other : ℕ) → other ≢ node → head_at olds other ≡ head_at heads other =
    λ other not. others_stay olds node next other not ∙ sym (ap (λ (list : List (Option K)). head_at list other) made) in
    subst (IsBracketOf order heads) (sym is)
    (record {
      spans = subst (λ (n : ℕ). Spans 0 n (replayed order heads node bracket)) (sym many) (spans_replayed order heads node 0 (length olds) bracket b.spans);
      is_played = is_replayed order olds heads node others 0 (length olds) bracket b.spans b.is_played;
      low = λ depth h. low_replayed order heads node depth bracket (b.low depth (omega (arith, many)));
    })

-- the leader has no head only where there is none
pub leads_none : {K : Type 0} (order : K → K → Ordering) → IsTotalOrder order → (heads : List (Option K)) (bracket : Bracket) → IsBracketOf order heads bracket
    → head_at heads (leader_of bracket) ≡ None → HasNoHead heads
leads_none {K} order total heads bracket b none =
    all_behind_none order heads (leader_of bracket)
    (λ other h. subst (λ (head : Option K). GoesBefore order (leader_of bracket) head other (head_at heads other)) none
    (leads_all order total heads 0 (length heads) bracket b.spans b.is_played other (omega arith) h))

pub leads_some : {K : Type 0} (order : K → K → Ordering) → IsTotalOrder order → (heads : List (Option K)) (bracket : Bracket) (key : K) → IsBracketOf order heads bracket
    → head_at heads (leader_of bracket) ≡ Some key → LeadsWith order heads (leader_of bracket) key
leads_some order total heads bracket key b some =
    let within = leader_in 0 (length heads) bracket b.spans in
    leads_with order heads (leader_of bracket) (head_at heads (leader_of bracket)) key within.1 refl some
    (λ other h. leads_all order total heads 0 (length heads) bracket b.spans b.is_played other (omega arith) h)

pub fewer_steps : {K : Type 0} (order : K → K → Ordering) (olds heads : List (Option K)) (bracket : Bracket) → IsBracketOf order olds bracket → length heads ≡ length olds
    → play_count order heads bracket ≤ head_count heads - 1
fewer_steps order olds heads bracket b many =
    fewer_than_heads order heads bracket (subst (λ (n : ℕ). Spans 0 n bracket) (sym many) b.spans)

-- ---- as the calls see it

pub counts_few : {K : Type 0} (order : K → K → Ordering) (olds heads now given : List (Option K)) (bracket : Bracket) (steps new : ℕ) → IsBracketOf order olds bracket
    → length heads ≡ length olds → now ≡ heads → heads ≡ given → new ≡ steps + play_count order now bracket → new ≤ steps + (head_count given - 1)
counts_few order olds heads now given bracket steps new b many is same counted =
    let few = fewer_steps order olds heads bracket b many in
    let here = ap (λ list. play_count order list bracket) is in
    let there = ap (λ list. head_count list) same in
    omega (arith, few, here, there, counted)

pub least_none : {K : Type 0} (order : K → K → Ordering) → IsTotalOrder order → (heads : List (Option K)) (bracket : Bracket) (node : ℕ) (head : Option K) → IsBracketOf order heads bracket
    → node ≡ leader_of bracket → head ≡ slice_index_or heads node head → head ≡ None → HasNoHead heads
least_none order total heads bracket node head b leads at none =
    leads_none order total heads bracket b
    (ap (head_at heads) (sym leads) ∙ sym (ap (slice_index_or heads node) none) ∙ sym at ∙ none)

pub least_some : {K : Type 0} (order : K → K → Ordering) → IsTotalOrder order → (heads : List (Option K)) (bracket : Bracket) (node : ℕ) (head : Option K) (key : K) → IsBracketOf order heads bracket
    → node ≡ leader_of bracket → head ≡ slice_index_or heads node head → head ≡ Some key → LeadsWith order heads node key
least_some order total heads bracket node head key b leads at some =
    let within = leader_in 0 (length heads) bracket b.spans in
    let inside : node < length heads = omega (arith, within.1, leads) in
    let here : head_at heads node ≡ Some key = at_any heads node None head inside ∙ sym at ∙ some in
    subst (λ (n : ℕ). LeadsWith order heads n key) (sym leads) (leads_some order total heads bracket key b (ap (head_at heads) (sym leads) ∙ here))

pub leader_has : {K : Type 0} (order : K → K → Ordering) (heads : List (Option K)) (node : ℕ) (key : K) → LeadsWith order heads node key → HasHead heads
leader_has order heads node key leads none = let both : None ≡ Some key = sym (none_at heads node none) ∙ leads.has in absurd (let e = both in cc)
