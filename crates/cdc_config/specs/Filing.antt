-- Renaming rules, filed by their tables.
use Rattle.std.specs.Prelude.{◌≡◌, ℕ, true, false, List, Some, None, Result, Ok, Err, ⊤}
use Rattle.std.specs.List.Sorted.{IsPermutation}
use Rattle.toml.specs.Data.{Data}
use Rattle.cdc_base.specs.declared.rename.Rename.{Rename}
use Rattle.cdc_event.specs.Table.{rule_for}
use Rattle.cdc_config.specs.declared.misfit.Misfit.{Misfit}
use Rattle.cdc_config.specs.declared.misfit.Misfit.TheVariants as misfit
use Rattle.cdc_config.specs.Keys.{are_apart, rules_from}

-- these names are a list of rules in another order, and each table has the rule that it has in the list
pub record AreNames (rules names : List Rename) : Type 0 where
  pub same : IsPermutation rules names
  pub answers : (db table : List ℕ) → rule_for db table names ≡ rule_for db table rules

-- what an answer says of rules: they are filed; two are for one table; or nothing
abbrev pub Files : Result (List Rename) Misfit → List Rename → Type 0
Files (Ok names) rules = (are_apart rules ≡ true) × AreNames rules names
Files (Err misfit.Refused) rules = are_apart rules ≡ false
Files (Err misfit.Memory) rules = ⊤

-- the names of a tree's rules
abbrev pub AreNamesIn : Data → List Rename → Type 0
AreNamesIn root names = (rules : List Rename) × (rules_from root ≡ Some rules) × AreNames rules names

-- what an answer says of a tree's rules
abbrev pub GivesNames : Result (List Rename) Misfit → Data → Type 0
GivesNames (Ok names) root = AreNamesIn root names
GivesNames (Err misfit.Refused) root = rules_from root ≡ None
GivesNames (Err misfit.Memory) root = ⊤
