-- Table maps under other names.
use Rattle.std.proofs.Common.{◌≡◌, ℕ, zero, suc, ◌+◌, ◌/◌, ◌≤◌, List, length, Some, refl, ap, ◌∙◌, arith, length-append}
use Rattle.cdc_base.specs.declared.rename.Rename.{Rename}
use Rattle.cdc_event.specs.declared.body.Body.{Body}
use Rattle.cdc_event.specs.declared.body.Body.TheVariants.{TableMap}
use Rattle.cdc_event.specs.Number.{low_first}
use Rattle.cdc_event.specs.Event.{body_bytes, FitsBody}
use Rattle.cdc_event.specs.Table.{map_renamed, renamed, rule_for}
use Rattle.cdc_rename.specs.Names.{KeepsRow}

pub keeps_same : (body : Body) → KeepsRow body body
keeps_same body = record { fits = λ h. h; kind = λ k. refl; size = omega arith }

-- a width of bytes is as long as it says
pub length-low_first : (width number : ℕ) → length (low_first width number) ≡ width
unfolding low_first
length-low_first zero number = refl
length-low_first (suc width) number = ap (λ n. suc n) (length-low_first width (number / 256))

-- the length of a table map
pub map_size : (table flags : ℕ) (db name rest : List ℕ) → length (body_bytes (TableMap table flags db name rest)) ≡ 12 + length db + length name + length rest
unfolding body_bytes
map_size table flags db name rest = simp (length-append, length-low_first) (omega arith)

new_names_fit : (table flags : ℕ) (db name rest db' name' : List ℕ) → length db' ≤ 64 → length name' ≤ 64 → FitsBody (TableMap table flags db name rest) → FitsBody (TableMap table flags db' name' rest)
unfolding FitsBody
new_names_fit table flags db name rest db' name' short_db short_name fits = (fits.0, fits.1, omega arith, omega arith)

-- new names of at most 64 bytes keep a table map a row
pub keeps_map : (table flags : ℕ) (db name rest db' name' : List ℕ) → length db' ≤ 64 → length name' ≤ 64 → KeepsRow (TableMap table flags db name rest) (TableMap table flags db' name' rest)
keeps_map table flags db name rest db' name' short_db short_name = record {
  fits = new_names_fit table flags db name rest db' name' short_db short_name;
  kind = λ k. refl;
  size = omega (arith, map_size table flags db name rest, map_size table flags db' name' rest);
}

-- the length of a table map that a rule renames
pub renamed_size : (rules : List Rename) (table flags : ℕ) (db name rest : List ℕ) (rule : Rename) → rule_for db name rules ≡ Some rule → length (body_bytes (renamed rules (TableMap table flags db name rest))) ≡ 12 + length rule.to_db + length rule.to_table + length rest
renamed_size rules table flags db name rest rule e =
    ap (λ answer. length (body_bytes (map_renamed table flags db name rest answer))) e ∙ map_size table flags rule.to_db rule.to_table rest
