-- Lengths that are summed up to the greatest number.
use Rattle.std.proofs.Common.{◌≡◌, ℕ, ◌+◌, ◌-◌, ◌^◌, ◌≤◌, min, List, [], ◌∷◌, ◌++◌, subst, ap, arith}
use Rattle.std.proofs.lemmas.List.Sums.{sum_by-cons, sum_by-append}
use Rattle.cdc_model.specs.Records.{Row}
use Rattle.cdc_model.specs.Print.{row_length}
use Rattle.cdc_writer.specs.Events.{events_length}

-- of all events some are counted, and the rest is left
pub record Counted (total : ℕ) (all rest : List Row) : Type 0 where
  pub within : total ≤ 2 ^ 64 - 1
  pub sum : min (total + events_length rest) (2 ^ 64 - 1) ≡ min (events_length all) (2 ^ 64 - 1)

pub counted_all : (all rest : List Row) → all ≡ rest → Counted 0 all rest
counted_all all rest e = record { within = omega arith; sum = let same : events_length all ≡ events_length rest = ap events_length e in omega arith }

pub counted_is : {total : ℕ} {all rest : List Row} (rest' : List Row) → rest ≡ rest' → Counted total all rest → Counted total all rest'
counted_is {total} {all} rest' e counted = subst (Counted total all) e counted

pub counted_more : {total : ℕ} {all : List Row} (some rest : List Row) → Counted total all (some ++ rest) → (total' : ℕ) → total' ≡ min (total + events_length some) (2 ^ 64 - 1) → Counted total' all rest
counted_more some rest counted total' e = record {
  within = omega arith;
  sum = omega (arith, counted.sum, sum_by-append row_length some rest);
}

pub counted_one : {total : ℕ} {all : List Row} (event : Row) (rest : List Row) → Counted total all (event ∷ rest) → (total' : ℕ) → total' ≡ min (total + row_length event) (2 ^ 64 - 1) → Counted total' all rest
counted_one event rest counted total' e = record {
  within = omega arith;
  sum = omega (arith, counted.sum, sum_by-cons row_length event rest);
}

pub counted_none : {total : ℕ} {all : List Row} → Counted total all [] → total ≡ min (events_length all) (2 ^ 64 - 1)
counted_none counted = omega (arith, counted.sum, counted.within)
