-- Facts on decimal digits.
use Rattle.std.proofs.Common.{ℕ, true, List, [], ◌∷◌, ◌≡◌, ◌<◌, ◌≤◌, ◌*◌, ◌+◌, ◌-◌, ◌^◌, length, take, get_or, refl, arith}
use Rattle.std.specs.Char.{is_ascii_digit, digit_value}
use Rattle.std.specs.List.{list_all}
use Rattle.std.specs.Str.Parse.{AllDigits, digits_value}
use Rattle.cdc_query.specs.Words.{is_number}
use Rattle.std.proofs.lemmas.Bool.{and_parts, ltb-true, leb-true}
use Rattle.std.proofs.lemmas.Str.Parse.{IsNumeralModel, digit_at, digit_from_value, digits_value-take-le, digits_value_short, numerals_by_value, tells_digits}
use Rattle.std.proofs.lemmas.Int.Digits.{digits_value_more}
use Rattle.std.proofs.lemmas.Str.{digit_value_digit}

digit-from_test : (c : ℕ) → is_ascii_digit c ≡ true → digit_value c < 10
digit-from_test c h = grind arith

test-from_digit : (c : ℕ) → digit_value c < 10 → is_ascii_digit c ≡ true
test-from_digit c h = let range = digit_from_value c h in grind (arith, range)

pub digits-from_test : (ds : List ℕ) → list_all is_ascii_digit ds ≡ true → AllDigits 10 ds
digits-from_test [] h = tt
digits-from_test (c ∷ cs) h =
    let parts = and_parts (is_ascii_digit c) (list_all is_ascii_digit cs) h in
    (digit-from_test c parts.0, digits-from_test cs parts.1)

pub test-from_digits : (ds : List ℕ) → AllDigits 10 ds → list_all is_ascii_digit ds ≡ true
test-from_digits [] h = refl
test-from_digits (c ∷ cs) h = rw (test-from_digit c h.0) (test-from_digits cs h.1)

-- what one more digit does to the number so far
pub record Step (ds : List ℕ) (i number : ℕ) : Type 0 where
  pub low : 48 ≤ get_or ds i 0
  pub high : get_or ds i 0 ≤ 57
  pub room : number * 10 + (get_or ds i 0 - 48) < 10 ^ 10
  pub more : number * 10 + (get_or ds i 0 - 48) ≡ digits_value 10 (take (i + 1) ds)

own : IsNumeralModel (AllDigits 10) (digits_value 10)
own = numerals_by_value (AllDigits 10) tells_digits

-- 1 to 10 decimal digits, part by part
pub record Parts (ds : List ℕ) : Type 0 where
  pub some : 0 < length ds
  pub few : length ds ≤ 10
  pub all : list_all is_ascii_digit ds ≡ true

pub parts_of : (ds : List ℕ) → is_number ds ≡ true → Parts ds
parts_of ds h =
    let outer = and_parts _ _ h in
    let inner = and_parts _ _ outer.0 in
    record { some = ltb-true 0 (length ds) inner.0; few = leb-true (length ds) 10 inner.1; all = outer.1 }

pub step : (ds : List ℕ) (i number : ℕ) → is_number ds ≡ true → i < length ds → number ≡ digits_value 10 (take i ds) → Step ds i number
step ds i number test lt so_far =
    let parts = parts_of ds test in
    let all = digits-from_test ds parts.all in
    let range = digit_at ds i all lt in
    let value = digit_value_digit (get_or ds i 0) range in
    let next = digits_value_more 10 ds i lt in
    let most = digits_value-take-le 10 ds (i + 1) (omega arith) in
    let whole = digits_value_short own ds 10 all parts.few in
    record {
      low = omega (arith, range.0);
      high = omega (arith, range.1);
      room = omega (arith, range.0, value, next, most, whole, so_far);
      more = omega (arith, range.0, value, next, so_far);
    }
