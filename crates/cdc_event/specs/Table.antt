-- Renaming of a table map: its two names by the first rule that names exactly both.
use Rattle.std.specs.Prelude.{ℕ, ◌&&◌, Bool, Option, Some, None, nat_eq, List}
use Rattle.std.specs.List.{find}
use Rattle.std.specs.Cmp.Lexicographic.{pointwise}
use Rattle.cdc_base.specs.declared.rename.Rename.{Rename}
use Rattle.cdc_event.specs.declared.body.Body.{Body}
use Rattle.cdc_event.specs.declared.body.Body.TheVariants.{TableMap}

-- a rule is for the table of these names
abbrev pub is_rule_for : List ℕ → List ℕ → Rename → Bool
is_rule_for db table rule = pointwise nat_eq db rule.db && pointwise nat_eq table rule.table

-- the first rule for a table
abbrev pub rule_for : List ℕ → List ℕ → List Rename → Option Rename
rule_for db table rules = find (is_rule_for db table) rules

-- a table map under new names
abbrev pub map_renamed : ℕ → ℕ → List ℕ → List ℕ → List ℕ → Option Rename → Body
map_renamed table flags db name rest None = TableMap table flags db name rest
map_renamed table flags db name rest (Some rule) = TableMap table flags rule.to_db rule.to_table rest

-- a body with its table renamed, where it is a table map and a rule names it
abbrev pub renamed : List Rename → Body → Body
renamed rules (TableMap table flags db name rest) = map_renamed table flags db name rest (rule_for db name rules)
renamed rules body = body
