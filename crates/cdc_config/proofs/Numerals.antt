-- Decimal digits as a number.
use Rattle.std.proofs.Common.{◌≡◌, ℕ, ◌^◌, ◌<◌, ◌==◌, ◌&&◌, nat_lt, nat_le, length, subst, true, false, List, [], ◌∷◌, Some, Result, Ok, Err, refl, ap, arith, inl, inr}
use Rattle.std.specs.Char.{is_ascii_digit, digit_value}
use Rattle.std.specs.List.{list_all}
use Rattle.std.specs.Result.{OkIff, result_ok}
use Rattle.std.specs.Str.Parse.{AllDigits, IsNumeral, ParsesUnsigned, digits_value, without_leading_plus}
use Rattle.std.proofs.lemmas.Bool.{and_parts, cases_Bool, ltb-true, lt-ltb}
use Rattle.std.proofs.lemmas.Bool.Decides.{nat_tests}
use Rattle.cdc_config.specs.Number.{if_word_sized, is_numeral, number_from}

no_plus : (c : ℕ) → is_ascii_digit c ≡ true → (c == 43) ≡ false
no_plus c h = grind (arith, nat_tests)

digit-value : (c : ℕ) → is_ascii_digit c ≡ true → digit_value c < 10
digit-value c h = grind arith

-- digits have no sign
unsigned : (ds : List ℕ) → list_all is_ascii_digit ds ≡ true → without_leading_plus ds ≡ ds
unsigned [] h = refl
unsigned (c ∷ cs) h = rw (no_plus c (and_parts (is_ascii_digit c) (list_all is_ascii_digit cs) h).0) refl

all_digits : (ds : List ℕ) → list_all is_ascii_digit ds ≡ true → AllDigits 10 ds
all_digits [] h = tt
all_digits (c ∷ cs) h =
    let parts = and_parts (is_ascii_digit c) (list_all is_ascii_digit cs) h in
    (digit-value c parts.0, all_digits cs parts.1)

-- what is parsed where the digits are fine, by their value
by_value : {E : Type 0} (P : Type 0) (r : Result ℕ E) (value : ℕ) → P → OkIff r (P × (value < 2 ^ 64)) value → result_ok r ≡ if_word_sized value
by_value P (Ok x) value p h = rw (lt-ltb value (2 ^ 64) h.0.1) (ap Some h.1)
by_value P (Err e) value p h =
    elim (cases_Bool (nat_lt value (2 ^ 64))) [
      | inl fits ↦ absurd (h (p, ltb-true value (2 ^ 64) fits))
      | inr large ↦ rw large refl
    ]

-- the number that std reads where a word is 1 to 20 digits
pub parsed : {E : Type 0} (word : List ℕ) (r : Result ℕ E) → is_numeral word ≡ true → ParsesUnsigned 64 10 word r → result_ok r ≡ number_from word
parsed {E} word r numeral h =
    let outer = and_parts (nat_lt 0 (length word) && nat_le (length word) 20) (list_all is_ascii_digit word) numeral in
    let inner = and_parts (nat_lt 0 (length word)) (nat_le (length word) 20) outer.0 in
    let plain = unsigned word outer.1 in
    let fits : OkIff r (IsNumeral 10 word × (digits_value 10 word < 2 ^ 64)) (digits_value 10 word) = subst (λ (ds : List ℕ). OkIff r (IsNumeral 10 ds × (digits_value 10 ds < 2 ^ 64)) (digits_value 10 ds)) plain h in
    rw numeral (by_value (IsNumeral 10 word) r (digits_value 10 word) (ltb-true 0 (length word) inner.0, all_digits word outer.1) fits)
