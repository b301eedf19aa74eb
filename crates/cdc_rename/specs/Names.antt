-- Renaming rules as a list without two rules for one table.
use Rattle.std.specs.Prelude.{◌≡◌, ℕ, ◌+◌, ◌<◌, ◌≤◌, List, ◌∷◌, length, map, slice_index_or, if◌then◌else◌, Some}
use Rattle.std.specs.List.{AllByRecursion}
use Rattle.std.specs.List.Sorted.{IsPermutation, IsStrictlySortedBy}
use Rattle.std.specs.Ordering.{nat_cmp, on, then_cmp}
use Rattle.std.specs.Cmp.Lexicographic.{slice_cmp}
use Rattle.std.specs.declared.cmp.Ordering.{Ordering}
use Rattle.std.specs.declared.cmp.Ordering.TheVariants.{Less, Equal, Greater}
use Rattle.cdc_base.specs.declared.rename.Rename.{Rename}
use Rattle.cdc_event.specs.declared.body.Body.{Body}
use Rattle.cdc_event.specs.declared.body.Body.TheVariants.{TableMap}
use Rattle.cdc_event.specs.Event.{body_bytes, FitsBody, has_kind}
use Rattle.cdc_event.specs.Table.{is_rule_for, rule_for}

-- a name has 1 to 64 bytes
pub record IsName (name : List ℕ) : Type 0 where
  pub some : 1 ≤ length name
  pub short : length name ≤ 64

-- the four names of a rule
pub record IsRule (rule : Rename) : Type 0 where
  pub db : IsName rule.db
  pub table : IsName rule.table
  pub to_db : IsName rule.to_db
  pub to_table : IsName rule.to_table

-- a table: its database and its name
abbrev pub TableName : Type 0
TableName = List ℕ × List ℕ

-- by database, then by name, each in byte order
abbrev pub table_order : TableName → TableName → Ordering
table_order = then_cmp (on (λ (t : TableName). t.0) (slice_cmp nat_cmp)) (on (λ (t : TableName). t.1) (slice_cmp nat_cmp))

-- the table that a rule is for
abbrev pub table_of : Rename → TableName
table_of rule = (rule.db, rule.table)

-- rules in the order of their tables, no two for one table, each of names of 1 to 64 bytes
pub record IsOrdered (rules : List Rename) : Type 0 where
  pub sorted : IsStrictlySortedBy table_order (map table_of rules)
  pub texts : AllByRecursion IsRule rules

-- the rule at this place is for the table
abbrev pub IsRuleAt : List Rename → TableName → ℕ → Type 0
IsRuleAt rules table at = (at < length rules) × ((rule : Rename) → table_order (table_of (slice_index_or rules at rule)) table ≡ Equal)

-- a rule for the table would go here: lesser tables stand before, and greater ones from here on
abbrev pub IsGapFor : List Rename → TableName → ℕ → Type 0
IsGapFor rules table at =
    (at ≤ length rules)
    × ((k : ℕ) (rule : Rename) → k < at → table_order (table_of (slice_index_or rules k rule)) table ≡ Less)
    × ((k : ℕ) (rule : Rename) → at ≤ k → k < length rules → table_order (table_of (slice_index_or rules k rule)) table ≡ Greater)

-- one rule more: for its table it answers, for every other table what answered before
pub record Adds (old new : List Rename) (rule : Rename) : Type 0 where
  pub rules : IsPermutation (rule ∷ old) new
  pub answers : (db table : List ℕ) → rule_for db table new ≡ (if is_rule_for db table rule then Some rule else rule_for db table old)

-- a body of type TABLE_MAP
abbrev pub IsTableMap : Body → Type 0
IsTableMap (TableMap table flags db name rest) = Unit {0}
IsTableMap body = ⊥

-- what renaming keeps of a row's body: it fits its layout, it stands under the same types, and it grows by at most 128 bytes
pub record KeepsRow (before after : Body) : Type 0 where
  pub fits : FitsBody before → FitsBody after
  pub kind : (kind : ℕ) → has_kind after kind ≡ has_kind before kind
  pub size : length (body_bytes after) ≤ length (body_bytes before) + 128
