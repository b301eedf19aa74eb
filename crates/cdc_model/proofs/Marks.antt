-- Entries' numbers, and the high-water and low-water marks.
use Rattle.std.proofs.Common.{ℕ, ◌≤◌, min, max, inl, inr, List, [], ◌∷◌, map, Contains, All, subst, le_refl, arith}
use Rattle.std.proofs.lemmas.Bool.{cases_lt}
use Rattle.std.proofs.lemmas.List.Elements.{All-nil, All-cons, All-head, All-tail, All-weaker}
use Rattle.cdc_model.specs.Start.{stamp}
use Rattle.cdc_model.specs.Watermark.{least, high_water_mark, IsLeast, IsGreatest, NumbersCount, MarkIsGreatest, NodeMarkIsLeast, MarkIsLeast}
use Rattle.cdc_model.proofs.Members.{contains_first, contains_later, contains_cases}

pub numbers_count : NumbersCount
numbers_count start [] = omega arith
numbers_count start (entry ∷ earlier) = omega (arith, numbers_count start earlier)

-- ---- the greatest

pub greatest_one : (mark : ℕ) → IsGreatest mark (mark ∷ [])
greatest_one mark = record {
  above = All-cons (λ other. other ≤ mark) mark [] (le_refl mark) (All-nil (λ other. other ≤ mark));
  reached = contains_first mark [];
}

-- a number behind the first of some
pub contains_second : (mark first stamp : ℕ) (stamps : List ℕ) → Contains (first ∷ stamps) mark → Contains (first ∷ stamp ∷ stamps) mark
contains_second mark first stamp stamps within =
    elim (contains_cases first stamps mark within) [
      | inl is ↦ subst (λ n. Contains (first ∷ stamp ∷ stamps) n) is (contains_first first (stamp ∷ stamps))
      | inr later ↦ contains_later first (stamp ∷ stamps) mark (contains_later stamp stamps mark later)
    ]

pub greatest_reached : (mark first stamp : ℕ) (stamps : List ℕ) → Contains (first ∷ stamps) mark → Contains (first ∷ stamp ∷ stamps) (max stamp mark)
greatest_reached mark first stamp stamps within =
    elim (cases_lt stamp mark) [
      | inl below ↦ subst (λ n. Contains (first ∷ stamp ∷ stamps) n) (omega arith) (contains_second mark first stamp stamps within)
      | inr above ↦ subst (λ n. Contains (first ∷ stamp ∷ stamps) n) (omega arith) (contains_later first (stamp ∷ stamps) stamp (contains_first stamp stamps))
    ]

pub greatest_more : (mark first stamp : ℕ) (stamps : List ℕ) → IsGreatest mark (first ∷ stamps) → IsGreatest (max stamp mark) (first ∷ stamp ∷ stamps)
greatest_more mark first stamp stamps greatest =
    let head : first ≤ mark = All-head (λ other. other ≤ mark) first stamps greatest.above in
    let tail : All (λ other. other ≤ max stamp mark) stamps =
    All-weaker (λ other. other ≤ mark) (λ other. other ≤ max stamp mark) (λ other below. omega arith) stamps
    (All-tail (λ other. other ≤ mark) first stamps greatest.above) in
    record {
      above = All-cons (λ other. other ≤ max stamp mark) first (stamp ∷ stamps) (omega arith) (All-cons (λ other. other ≤ max stamp mark) stamp stamps (omega arith) tail);
      reached = greatest_reached mark first stamp stamps greatest.reached;
    }

pub mark_is_greatest : MarkIsGreatest
mark_is_greatest start [] = greatest_one start.mark
mark_is_greatest start (entry ∷ earlier) =
    greatest_more (high_water_mark start earlier) start.mark (stamp entry.kind) (map (λ e. stamp e.kind) earlier) (mark_is_greatest start earlier)

-- ---- the least

pub least_one : (mark : ℕ) → IsLeast mark (mark ∷ [])
least_one mark = record {
  below = All-cons (λ other. mark ≤ other) mark [] (le_refl mark) (All-nil (λ other. mark ≤ other));
  reached = contains_first mark [];
}

-- the least of two numbers is one of them
pub contains_min : (least a b : ℕ) (numbers : List ℕ) → Contains (min a b ∷ numbers) least → Contains (a ∷ b ∷ numbers) least
contains_min least a b numbers within =
    elim (contains_cases (min a b) numbers least within) [
      | inl is ↦
          elim (cases_lt a b) [
            | inl below ↦ subst (λ n. Contains (a ∷ b ∷ numbers) n) (omega arith) (contains_first a (b ∷ numbers))
            | inr above ↦ subst (λ n. Contains (a ∷ b ∷ numbers) n) (omega arith) (contains_later a (b ∷ numbers) b (contains_first b numbers))
          ]
      | inr later ↦ contains_later a (b ∷ numbers) least (contains_later b numbers least later)
    ]

pub least_of_two : (least a b : ℕ) (numbers : List ℕ) → IsLeast least (min a b ∷ numbers) → IsLeast least (a ∷ b ∷ numbers)
least_of_two least a b numbers is_least =
    let head : least ≤ min a b = All-head (λ other. least ≤ other) (min a b) numbers is_least.below in
    let tail : All (λ other. least ≤ other) numbers = All-tail (λ other. least ≤ other) (min a b) numbers is_least.below in
    record {
      below = All-cons (λ other. least ≤ other) a (b ∷ numbers) (omega arith) (All-cons (λ other. least ≤ other) b numbers (omega arith) tail);
      reached = contains_min least a b numbers is_least.reached;
    }

pub least_is_least : (most : ℕ) (numbers : List ℕ) → IsLeast (least most numbers) (most ∷ numbers)
least_is_least most [] = least_one most
least_is_least most (number ∷ numbers) =
    least_of_two (least (min most number) numbers) most number numbers (least_is_least (min most number) numbers)

pub node_mark_is_least : NodeMarkIsLeast
node_mark_is_least start = least_is_least start.mark (map (λ o. o.floor) start.opened)

pub mark_is_least : MarkIsLeast
mark_is_least first rest = least_is_least first rest
