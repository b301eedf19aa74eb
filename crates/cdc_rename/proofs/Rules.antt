-- Renaming rules in order: what a search finds, and what one rule more changes.
use Rattle.std.proofs.Common.{◌≡◌, ℕ, ◌<◌, false, ◌&&◌, nat_eq, List, [], ◌∷◌, length, get_or, Some, None, IsSome, Result, Ok, Err, IfOk, IfErr, refl, sym, ◌∙◌, ap, inl, inr, arith, rules as std_rules}
use Rattle.std.specs.List.{find, insert}
use Rattle.std.proofs.lemmas.Bool.{cases_lt}
use Rattle.std.specs.List.Sorted.{IsStrictlySortedBy, IsSearchInRange, IsBinarySearchResult}
use Rattle.std.specs.Ordering.{is_eq, nat_cmp, ordering_then}
use Rattle.std.specs.Cmp.{IsTotalOrder}
use Rattle.std.specs.Cmp.Lexicographic.{slice_cmp, pointwise, texts_ties}
use Rattle.std.proofs.lemmas.Cmp.{nat_list_cmp_total, nat_list_eq_equiv, then_total, on_total}
use Rattle.std.proofs.lemmas.List.Sorted.{searchable_from_sorted, IsPermutation-insert}
use Rattle.std.specs.declared.cmp.Ordering.{Ordering}
use Rattle.std.specs.declared.cmp.Ordering.TheVariants.{Less, Equal, Greater}
use Rattle.cdc_base.specs.declared.rename.Rename.{Rename}
use Rattle.cdc_event.specs.Table.{is_rule_for, rule_for}
use Rattle.cdc_rename.specs.Names.{TableName, table_order, table_of, IsRule, IsOrdered, IsRuleAt, IsGapFor, Adds}
use Rattle.cdc_rename.proofs.Ordered.{has_key, find_at, find_none, find_insert, sorted_insert, is_sorted, all_insert}

-- the order of tables is total
pub table_order_total : IsTotalOrder table_order
table_order_total = then_total (on_total (λ (t : TableName). t.0) nat_list_cmp_total) (on_total (λ (t : TableName). t.1) nat_list_cmp_total)

both_equal : (a b : Ordering) → is_eq (ordering_then a b) ≡ (is_eq a && is_eq b)
both_equal Less b = refl
both_equal Equal b = refl
both_equal Greater b = refl

-- a rule is for a table where its own table ties with it
pub rule_ties : (db table : List ℕ) (rule : Rename) → is_rule_for db table rule ≡ has_key table_of table_order_total (db, table) rule
rule_ties db table rule =
    let by_db : pointwise nat_eq db rule.db ≡ is_eq (slice_cmp nat_cmp rule.db db) = nat_list_eq_equiv.symm db rule.db ∙ texts_ties rule.db db in
    let by_table : pointwise nat_eq table rule.table ≡ is_eq (slice_cmp nat_cmp rule.table table) = nat_list_eq_equiv.symm table rule.table ∙ texts_ties rule.table table in
    rw (by_db, by_table) (sym (both_equal (slice_cmp nat_cmp rule.db db) (slice_cmp nat_cmp rule.table table)))

-- the rule for a table is the one whose table ties with it
pub rule_found : (db table : List ℕ) (rules : List Rename) → rule_for db table rules ≡ find (has_key table_of table_order_total (db, table)) rules
rule_found db table [] = refl
rule_found db table (rule ∷ rules) = rw (rule_ties db table rule, rule_found db table rules) refl

-- what a binary search answers over rules in order
pub searched : (rules : List Rename) → IsOrdered rules → (table : TableName) (r : Result ℕ ℕ) → IsSearchInRange r (length rules) → IsBinarySearchResult (λ rule. table_order (table_of rule) table) rules r → record { found : IfOk r (IsRuleAt rules table); absent : IfErr r (IsGapFor rules table) }
searched rules ordered table (Ok at) within found = record { found = (within, found); absent = tt }
searched rules ordered table (Err at) within parted =
    let parts = parted (searchable_from_sorted table_order_total table_of rules table (is_sorted table_of table_order_total rules ordered.sorted)) in
    record { found = tt; absent = (within, λ k rule lt. parts.0 k rule (omega arith) lt, λ k rule le lt. parts.1 k rule le lt) }

-- the rule at its place answers
pub answers_at : (rules : List Rename) → IsOrdered rules → (db table : List ℕ) (at : ℕ) → IsRuleAt rules (db, table) at → (rule : Rename) → rule_for db table rules ≡ Some (get_or rules at rule)
answers_at rules ordered db table at is_at rule =
    rule_found db table rules ∙ find_at table_of table_order_total rules ordered.sorted (db, table) at rule is_at.0 (is_at.1 rule)

-- where a rule would go there is none
pub answers_none : (rules : List Rename) (db table : List ℕ) (at : ℕ) → IsGapFor rules (db, table) at → rule_for db table rules ≡ None
answers_none rules db table at gap = rule_found db table rules ∙ find_none table_of table_order_total rules (db, table) none
  where
    none : (k : ℕ) (rule : Rename) → k < length rules → has_key table_of table_order_total (db, table) (get_or rules k rule) ≡ false
    none k rule lt = elim (cases_lt k at) [
      | inl below ↦ ap is_eq (gap.1 k rule below)
      | inr beyond ↦ ap is_eq (gap.2 k rule beyond lt)
    ]

-- one rule more, where it goes
pub adds_insert : (rules : List Rename) (rule : Rename) (at : ℕ) → IsGapFor rules (rule.db, rule.table) at → Adds rules (insert rules at rule) rule
adds_insert rules rule at gap = record {
  rules = IsPermutation-insert rules at rule;
  answers = λ db table.
      rule_found db table (insert rules at rule)
      ∙ find_insert table_of table_order_total rules at rule (db, table) (λ k d lt within. gap.1 k d lt) gap.0
      ∙ rw (rule_ties db table rule, rule_found db table rules) refl;
}

pub ordered_insert : (rules : List Rename) (rule : Rename) (at : ℕ) → IsOrdered rules → IsRule rule → IsGapFor rules (rule.db, rule.table) at → IsOrdered (insert rules at rule)
ordered_insert rules rule at ordered named gap = record {
  sorted = sorted_insert table_of table_order_total rules at rule ordered.sorted gap.0 gap.1 gap.2;
  texts = all_insert IsRule rules at rule ordered.texts named;
}

pub ordered_none : IsOrdered []
unfolding IsStrictlySortedBy
ordered_none = record { sorted = tt; texts = tt }

-- there is a rule at its place, and none where one would go
pub is_there : (rules : List Rename) → IsOrdered rules → (rule : Rename) (at : ℕ) → IsRuleAt rules (rule.db, rule.table) at → IsSome (rule_for rule.db rule.table rules)
is_there rules ordered rule at is_at = rw (answers_at rules ordered rule.db rule.table at is_at rule) refl

pub is_not_there : (rules : List Rename) (rule : Rename) (at : ℕ) → IsGapFor rules (rule.db, rule.table) at → IsSome (rule_for rule.db rule.table rules) → ⊥
is_not_there rules rule at gap some = let none = rw (answers_none rules rule.db rule.table at gap) at some in search std_rules
