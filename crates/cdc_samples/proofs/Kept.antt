-- The rows of tests are kept rows.
use Rattle.std.proofs.Common.{◌≡◌, ℕ, zero, suc, ◌+◌, ◌/◌, ◌≤◌, ◌^◌, List, [], ◌∷◌, ◌++◌, length, refl, ap, arith, length-append}
use Rattle.std.specs.List.{AllByRecursion}
use Rattle.cdc_event.specs.Number.{low_first}
use Rattle.cdc_event.specs.declared.body.Body.TheVariants.{Rows, RowsQuery, TableMap}
use Rattle.cdc_event.specs.Event.{body_bytes, FitsBody}
use Rattle.cdc_model.specs.Records.{Row}
use Rattle.cdc_model.specs.Kept.{IsRow}

length-low_first : (width number : ℕ) → length (low_first width number) ≡ width
unfolding low_first
length-low_first zero number = refl
length-low_first (suc width) number = ap (λ n. suc n) (length-low_first width (number / 256))

pub value_kept : (bytes : List ℕ) → length bytes ≤ 2 ^ 26 → IsRow (30, Rows bytes)
unfolding FitsBody body_bytes
value_kept bytes short = record { fits = tt; kind = refl; numbered = omega arith; most = omega arith }

pub marked_kept : (text : List ℕ) → length text ≤ 2 ^ 26 → IsRow (29, RowsQuery 7 text)
unfolding FitsBody body_bytes
marked_kept text short = record { fits = omega arith; kind = refl; numbered = omega arith; most = omega arith }

map_size : (db name rest : List ℕ) → length (body_bytes (TableMap 1 1 db name rest)) ≡ 12 + length db + length name + length rest
unfolding body_bytes
map_size db name rest = simp (length-append, length-low_first) (omega arith)

pub map_kept : (db name rest : List ℕ) → length db ≤ 64 → length name ≤ 64 → length rest ≤ 2 ^ 26 → IsRow (19, TableMap 1 1 db name rest)
unfolding FitsBody
map_kept db name rest short_db short_name short_rest = record {
  fits = (omega arith, omega arith, omega arith, omega arith);
  kind = refl;
  numbered = omega arith;
  most = omega (arith, map_size db name rest);
}

-- one row more
pub all_more : (rows : List Row) (row : Row) → AllByRecursion IsRow rows → IsRow row → AllByRecursion IsRow (rows ++ row ∷ [])
all_more [] row all one = (one, tt)
all_more (first ∷ rows) row all one = (all.0, all_more rows row all.1 one)
